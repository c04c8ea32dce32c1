use Rattle.std.proofs.Common.{◌≡◌, ◌≢◌, ◌<◌, [], length, map, drop, All, AllPairs}
use Rattle.pipe_text_schedule.specs.Receivers.{receivers_in}
use Rattle.pipe_text_schedule.proofs.receivers.read_receivers.Given as goal

-- the receivers so far, and then those of the rest, are those of all words
abbrev pub invariant-loop-word : goal.invariant-loop-word
invariant-loop-word l = record {
  same : receivers_in l.topology l.names l.dests (map (λ word. word.now) (drop l.word-index l.words))
      ≡ receivers_in l.topology l.names [] (map (λ word. word.now) l.words);
  known : All (λ d. d.0.0 < l.topology.hosts) l.dests;
  different : AllPairs (λ a b. a.0.0 ≢ b.0.0) l.dests;
  count : length l.dests ≡ l.word-index;
}
