use Rattle.std.proofs.Common.{◌≡◌, ℕ, List, [], ◌∷◌, ◌++◌, ◌+◌, ap, sym, subst, rules, arith}
use Rattle.pipe_model.specs.declared.logs.Log.{Log}
use Rattle.pipe_model.specs.Collected.{AreLogs, entries}
use Rattle.pipe_model.proofs.Collecting.{one_more_host}
use Rattle.pipe_model.proofs.logs.empty_logs.Goals as goal

pub hosts-preserved : goal.hosts-preserved
hosts-preserved c = (
  search rules,
  λ graph.
      let log : Log = record { best = c.new.result; reliable = c.new-in-hosts.result } in
      let grown : c.push.new.self.items ≡ c.hosts.all.items ++ log ∷ [] = search rules in
      subst (λ (all : List Log). AreLogs graph (c.hosts.counter + 1) [] all) (sym grown)
      (one_more_host graph c.hosts.counter c.hosts.all.items log (c.hosts.invariant.1 graph) (ap entries c.new.ensures.items) (ap entries c.new-in-hosts.ensures.items)),
)

pub returns-clause-logs : goal.returns-clause-logs
returns-clause-logs c = λ graph.
    let all_hosts : c.hosts.counter ≡ c.args.hosts = omega arith in
    subst (λ (n : ℕ). AreLogs graph n [] c.hosts.all.items) all_hosts (c.hosts.invariant.1 graph)
