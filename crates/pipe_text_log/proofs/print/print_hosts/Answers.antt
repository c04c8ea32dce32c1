use Rattle.std.proofs.Common.{◌≡◌, ℕ, ◌+◌, suc, List, ◌++◌, arith, rules, ap, sym, subst, ◌∙◌, append_assoc, slice_index_or}
use Rattle.pipe_model.specs.Collected.{AreLogsOf}
use Rattle.pipe_text_log.specs.LogText.{host_text, hosts_text}
use Rattle.pipe_text_log.proofs.print.print_hosts.Goals as goal

pub hosts-preserved : goal.hosts-preserved
hosts-preserved c = λ graph past logs.
    let host : ℕ = c.hosts.host in
    let at : c.from.result ≡ host = search rules in
    let item : c.index-all-from.result ≡ _ = c.index-all-from.is ∙ ap (λ (k : ℕ). slice_index_or c.args.all.now k c.index-all-from.result) at in
    let here : AreLogsOf graph past host c.index-all-from.result =
    subst (AreLogsOf graph past host) (sym item) (logs.each host c.index-all-from.result (omega arith)) in
    let before : c.hosts.out.items ≡ c.args.out.now.items ++ hosts_text c.args.names.now graph past host = c.hosts.invariant graph past logs in
    let next : suc host ≡ host + 1 = omega arith in
    c.in_ok-print_host.ensures graph past here
    ∙ ap (λ (out : List ℕ). out ++ host_text c.args.names.now graph past host) before
    ∙ append_assoc c.args.out.now.items (hosts_text c.args.names.now graph past host) (host_text c.args.names.now graph past host)
    ∙ ap (λ (n : ℕ). c.args.out.now.items ++ hosts_text c.args.names.now graph past n) next
