use Rattle.std.proofs.Common.{ℕ, ◌+◌, ◌-◌, ◌≤◌, length, take, drop, arith, length-take, length-drop, ◌∙◌}
use Rattle.pipe_cli.proofs.OutsideLaws.{appends_more, take-more}
use Rattle.pipe_cli.proofs.write.write_all.Goals as goal

pub writing-preserved : goal.writing-preserved
writing-preserved g c =
    let within : c.in-Ok.count ≤ length c.args.text.now - c.writing.at
    = omega (arith, length-take {A = ℕ}, length-drop {A = ℕ}, c.in-Ok.ensures.some.0) in
    record {
      within = omega arith;
      written = appends_more (g.K.Sink.written c.args.sink.now) (g.K.Sink.written c.writing.sink) (g.K.Sink.written c.write.new.self)
          (take c.writing.at c.args.text.now)
          (take c.in-Ok.count (take (length c.args.text.now - c.writing.at) (drop c.writing.at c.args.text.now)))
          (take (c.writing.at + c.in-Ok.count) c.args.text.now)
          c.writing.invariant.written c.in-Ok.ensures.bytes (take-more c.writing.at c.in-Ok.count c.args.text.now);
      steady = c.in-Ok.ensures.cause.kept ∙ c.writing.invariant.steady;
    }
