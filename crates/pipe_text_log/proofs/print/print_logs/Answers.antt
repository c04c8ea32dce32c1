use Rattle.std.proofs.Common.{ℕ, List, ◌++◌, reverse, ap, sym, subst, ◌∙◌}
use Rattle.pipe_graph.specs.Graph.{Graph}
use Rattle.pipe_model.specs.declared.logs.Log.{Log}
use Rattle.pipe_model.specs.declared.record.Record.{Record}
use Rattle.pipe_model.specs.Collected.{AreLogs}
use Rattle.pipe_text_log.specs.LogText.{hosts_text}
use Rattle.pipe_text_log.proofs.print.print_logs.Goals as goal

pub returns : goal.returns
returns c =
    let past : List Record = reverse c.args.trace.now in
    let names : List (List ℕ) = c.args.names.now in
    let hosts : ℕ = c.hosts-hosts.result in
    let graph : Graph = c.args.topology.now in
    let logs : AreLogs graph hosts past c.deref.result.now =
    subst (λ (all : List Log). AreLogs graph hosts past all) (sym c.deref.ensures.value) (c.in_ok-all.ensures.logs graph (sym c.ends.ensures)) in
    c.from_vec.ensures ∙ c.in_ok-print_hosts.ensures graph past logs
    ∙ ap (λ (out : List ℕ). out ++ hosts_text names graph past hosts) c.new-out.ensures.items
    ∙ ap (λ (n : ℕ). hosts_text names graph past n) c.hosts-hosts.ensures.value
