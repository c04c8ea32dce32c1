use Rattle.std.proofs.Common.{◌≡◌, ◌⊎◌, List, ℕ, map, string_bytes, subst, sym, take}
use Rattle.pipe_cli.specs.declared.status.Status.{Status}
use Rattle.pipe_cli.specs.declared.status.Status.TheVariants.{NoMemory}
use Rattle.pipe_cli.specs.Answer.{AsksFor, DoesReplay}
use Rattle.pipe_cli.proofs.AnswerLaws.{refusal_complete, written_of_input, written_complete, does_replay}
use Rattle.pipe_cli.proofs.top.run.Goals as goal

pub returns-in-Err-clause-complete : goal.returns-in-Err-clause-complete
returns-in-Err-clause-complete g c =
    λ source sink form bytes left.
    subst (λ (status : Status). AsksFor (take 67108865 bytes) status ⊎ (status ≡ NoMemory)) (sym c.stopped-in-Err.ensures.status)
    (refusal_complete (g.S.Source.left c.args.source.now) (g.S.Source.left c.read_all.new.source) c.in-Ok.bytes.items bytes c.in-Err.refusal
    c.in-Err.ensures.err
    c.in-Ok.ensures.read left)

pub returns-in-Ok-replay-clause-input : goal.returns-in-Ok-replay-clause-input
returns-in-Ok-replay-clause-input g c =
    written_of_input c.in-Some.form (g.S.Source.left c.args.source.now) (g.S.Source.left c.read_all.new.source) (g.K.Sink.written c.args.sink.now)
    (g.K.Sink.written c.write_out.new.sink) c.in-Ok.bytes.items c.in-Ok-replay.done.text c.in-Ok-replay.done.trace c.write_out.result.status
    c.write_out.ensures.written c.in-Ok.ensures.read
    c.in-Ok-replay.ensures.ok

pub returns-in-Ok-replay-clause-replay : goal.returns-in-Ok-replay-clause-replay
returns-in-Ok-replay-clause-replay g c =
    λ has. subst (DoesReplay (map string_bytes c.args.words.now) c.write_out.result.status (g.S.Source.left c.args.source.now) (g.S.Source.left c.read_all.new.source)
    (g.K.Sink.written c.args.sink.now) (g.K.Sink.written c.write_out.new.sink)) (sym c.write_out.ensures.trace)
    (does_replay c.in-Some.form (map string_bytes c.args.words.now) (g.S.Source.left c.args.source.now) (g.S.Source.left c.read_all.new.source) (g.K.Sink.written c.args.sink.now)
    (g.K.Sink.written c.write_out.new.sink) c.in-Ok.bytes.items c.in-Ok-replay.done.text c.in-Ok-replay.done.trace
    c.write_out.result.status c.in-Some.ensures.some c.write_out.ensures.written c.in-Ok.ensures.read
    c.in-Ok-replay.ensures.ok)

pub returns-in-Ok-replay-clause-complete : goal.returns-in-Ok-replay-clause-complete
returns-in-Ok-replay-clause-complete g c =
    λ source sink form bytes left.
    written_complete c.in-Some.form (g.S.Source.left c.args.source.now) (g.S.Source.left c.read_all.new.source) (g.K.Sink.written c.args.sink.now)
    (g.K.Sink.written c.write_out.new.sink) c.in-Ok.bytes.items bytes c.in-Ok-replay.done.text c.in-Ok-replay.done.trace
    c.write_out.result.status c.write_out.ensures.written (λ is. sink (c.write_out.ensures.failed is)) c.in-Ok.ensures.read
    c.in-Ok-replay.ensures.ok
    left
