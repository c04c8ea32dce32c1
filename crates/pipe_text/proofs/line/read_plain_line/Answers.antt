use Rattle.std.proofs.Common.{◌≡◌, ◌++◌, ◌∷◌, arith}
use Rattle.pipe_text.proofs.PlainLaws.{continues_after_space, read_at_feed, shorter}
use Rattle.pipe_text.proofs.line.read_plain_line.Goals as goal

pub returns-in-10 : goal.returns-in-10
returns-in-10 c =
    let split : c.words.rest.now ≡ c.in-Some.word.now ++ 10 ∷ c.in-Some.after.now = cc (c.in-Some.ensures.some.0, c.in-10.is) in
    read_at_feed c.args.text.now c.words.rest.now c.in-Some.word.now c.in-Some.after.now _ _ c.in-Some.ensures.some.1 split c.in_ok-add_word.ensures
    c.words.invariant.within c.words.invariant.goes_on

pub words-preserved : goal.words-preserved
words-preserved c =
    let split : c.words.rest.now ≡ c.in-Some.word.now ++ 32 ∷ c.in-Some.after.now = cc (c.in-Some.ensures.some.0, c.in-32.is) in
    let less = shorter c.words.rest.now c.in-Some.word.now c.in-Some.after.now 32 split c.words.invariant.within in
    record {
      goes_on = continues_after_space c.args.text.now c.words.rest.now c.in-Some.word.now c.in-Some.after.now _ _ c.in-Some.ensures.some.1 split
          c.in_ok-add_word.ensures c.words.invariant.goes_on;
      within = omega (arith, less);
    }
