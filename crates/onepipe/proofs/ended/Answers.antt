use Rattle.onepipe.proofs.ended.Goals as goal

pub returns-in-Ok-clause-ran : goal.returns-in-Ok-clause-ran
returns-in-Ok-clause-ran g c =
    let run = c.run-outcome.ensures in
    rw c.in-Ok.is (record {
      outcome = c.run-outcome.result;
      number_is = c.told.ensures;
      usage = run.usage;
      unread = run.unread;
      input = run.input;
      cause = run.cause;
      replay = run.replay;
      last = run.last;
      silent = run.silent;
      complete = run.complete;
    })
