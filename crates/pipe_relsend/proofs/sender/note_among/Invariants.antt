use Rattle.std.proofs.Common.{◌≡◌, ◌≤◌, ◌-◌, vec_len, vec_capacity}
use Rattle.pipe_relsend.specs.Sending.{noted}
use Rattle.pipe_relsend.proofs.PlaceLaws.{half_noted}
use Rattle.pipe_relsend.proofs.sender.note_among.Given as goal

-- the scatterings before `at` have noted the failed hosts, and those from there on have still to
abbrev pub invariant-places : goal.invariant-places
invariant-places l = record {
  items : half_noted l.failed l.at l.pending.items ≡ noted l.failed l.initial.pending.items;
  within : l.at ≤ vec_len l.pending;
  fewer : vec_len l.pending ≤ vec_len l.initial.pending;
  capacity : vec_capacity l.pending ≡ vec_capacity l.initial.pending;
}

abbrev pub decreases-places : goal.decreases-places
decreases-places l = vec_len l.pending - l.at
