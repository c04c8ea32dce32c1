use Rattle.std.proofs.Common.{◌≡◌, ℕ, ◌<◌, ◌-◌, length, ap, ◌∙◌, arith}
use Rattle.pipe_net.specs.Waits.{Waits, on_link, waiting, with_packet, without_packet}
use Rattle.pipe_world.proofs.WaitingLists.{on_link_count, undone}
use Rattle.pipe_world.proofs.puts.take_one_back.Goals as goal

pub returns-clause-back : goal.returns-clause-back
returns-clause-back c = λ before packet is.
    let link = c.args.link.0 in
    let known : link < length before.lines =
    omega (arith, c.requires, ap (λ (w : Waits). length w.lines) is, on_link_count before link (with_packet packet)) in
    let last : c.saturating_sub-last.result ≡ length (waiting link (on_link link (with_packet packet) before)) - 1 =
    c.saturating_sub-last.ensures ∙ ap (λ (n : ℕ). n - 1) c.waiting.ensures ∙ ap (λ (w : Waits). length (waiting link w) - 1) is in
    c.lose.ensures.left
    ∙ ap (on_link link (without_packet c.saturating_sub-last.result)) is
    ∙ undone before link packet c.saturating_sub-last.result known last
