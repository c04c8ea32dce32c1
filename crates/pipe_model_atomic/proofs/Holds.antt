-- The sentences hold at every moment of a run.
use Rattle.std.proofs.Common.{List, [], ◌∷◌, refl, sym, true≢false, arith}
use Rattle.pipe_base.specs.declared.packet.Plane.TheVariants.{Commit}
use Rattle.pipe_graph.specs.Graph.{Graph}
use Rattle.pipe_graph.specs.Reach.{JoinsAllHosts}
use Rattle.pipe_model.specs.declared.record.Record.{Record}
use Rattle.pipe_model.specs.Run.{IsHistory}
use Rattle.pipe_model_net.proofs.Prepared.{prepared_held}
use Rattle.pipe_model_net.proofs.Promised.{fields_promised}
use Rattle.pipe_model_atomic.specs.Sentences.{Bounding, Knowing, Sentences}
use Rattle.pipe_model_atomic.proofs.CutOff.{keeps_gone_noted, keeps_noted_or_cut_off}
use Rattle.pipe_model_atomic.proofs.Drops.{keeps_drops_known, keeps_live_not_dropped, live_used}
use Rattle.pipe_model_atomic.proofs.Members.{joined_first, keeps_members_joined, keeps_present_members, present_first}
use Rattle.pipe_model_atomic.proofs.Noted.{keeps_noted_first}
use Rattle.pipe_model_atomic.proofs.Once.{keeps_announced_once}
use Rattle.pipe_model_atomic.proofs.Promised.{keeps_times_promised}
use Rattle.pipe_model_atomic.proofs.Recalled.{keeps_recalls_in_time}
use Rattle.pipe_model_atomic.proofs.Reports.{keeps_reports_marks}
use Rattle.pipe_model_atomic.proofs.Told.{control_true, keeps_counts_true}
use Rattle.pipe_model_atomic.proofs.VoidLogged.{keeps_none_void}

-- ---- at the start

bounding_starts : (graph : Graph) → JoinsAllHosts graph → Bounding graph []
bounding_starts graph joined = record {
  members_joined = joined_first graph joined;
  present_are_members = present_first graph;
  gone_are_noted = λ host other is. absurd (true≢false (sym is));
  live_are_used = λ link live. refl;
  fields_promised = fields_promised Commit graph [] tt;
  reports_are_marks = λ link value is. cc;
  noted_or_cut_off = λ host other time is member present. cc;
}

knowing_starts : (graph : Graph) → Knowing graph []
knowing_starts graph = record {
  noted_first = λ node. ([], refl);
  drops_known_first = λ node. ([], refl);
  live_not_dropped = λ link live. refl;
  control_true = control_true graph [] tt;
  counts_true = record { done = λ host. omega arith; gone = λ node. omega arith };
  announced_once = λ i j d lt inside. absurd (omega (arith, inside));
}

sentences_start : (graph : Graph) → JoinsAllHosts graph → Sentences graph []
sentences_start graph joined = record {
  bounding = bounding_starts graph joined;
  knowing = knowing_starts graph;
  times_promised = λ host time is. cc;
  prepared_held = prepared_held graph [] tt;
  recalls_in_time = λ sender sender_in k d lt. absurd (omega (arith, lt));
  none_void_logged = λ host present k d lt. absurd (omega (arith, lt));
}

-- ---- from record to record

knowing_keeps : (graph : Graph) (past : List Record) (r : Record) → IsHistory graph (r ∷ past) → Knowing graph past → Knowing graph (r ∷ past)
knowing_keeps graph past r run before = record {
  noted_first = keeps_noted_first graph past r run before.noted_first;
  drops_known_first = keeps_drops_known graph past r run before.drops_known_first;
  live_not_dropped = keeps_live_not_dropped graph past r before.live_not_dropped;
  control_true = control_true graph (r ∷ past) run;
  counts_true = keeps_counts_true graph past r run before.counts_true;
  announced_once = keeps_announced_once graph past r before.announced_once;
}

bounding_keeps : (graph : Graph) (past : List Record) (r : Record) → IsHistory graph (r ∷ past) → Knowing graph past → Knowing graph (r ∷ past) → Bounding graph past
    → Bounding graph (r ∷ past)
bounding_keeps graph past r run known knows before = record {
  members_joined = keeps_members_joined graph past r before.members_joined;
  present_are_members = keeps_present_members graph past r before.present_are_members;
  gone_are_noted = keeps_gone_noted graph past r known before.present_are_members before.gone_are_noted;
  live_are_used = live_used graph (r ∷ past) knows.drops_known_first knows.live_not_dropped;
  fields_promised = fields_promised Commit graph (r ∷ past) run;
  reports_are_marks = keeps_reports_marks graph past r run before.reports_are_marks;
  noted_or_cut_off = keeps_noted_or_cut_off graph past r known before.noted_or_cut_off;
}

sentences_keep : (graph : Graph) (past : List Record) (r : Record) → IsHistory graph (r ∷ past) → Sentences graph past → Sentences graph (r ∷ past)
sentences_keep graph past r run before =
    let knows : Knowing graph (r ∷ past) = knowing_keeps graph past r run before.knowing in
    let after : Bounding graph (r ∷ past) = bounding_keeps graph past r run before.knowing knows before.bounding in
    record {
      bounding = after;
      knowing = knows;
      times_promised = keeps_times_promised graph past r run before.bounding before.times_promised;
      prepared_held = prepared_held graph (r ∷ past) run;
      recalls_in_time = keeps_recalls_in_time graph past r run before.bounding before.times_promised before.knowing.noted_first before.recalls_in_time;
      none_void_logged = keeps_none_void graph past r run after before.knowing.noted_first before.none_void_logged;
    }

pub sentences_hold : (graph : Graph) (past : List Record) → JoinsAllHosts graph → IsHistory graph past → Sentences graph past
sentences_hold graph [] joined run = sentences_start graph joined
sentences_hold graph (r ∷ past) joined run = sentences_keep graph past r run (sentences_hold graph past joined run.0)
