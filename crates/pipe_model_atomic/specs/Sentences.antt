-- What holds at every moment of a run, and from which all or none follows.
use Rattle.std.specs.Prelude.{ℕ, List}
use Rattle.pipe_base.specs.declared.packet.Plane.TheVariants.{Commit}
use Rattle.pipe_graph.specs.Graph.{Graph}
use Rattle.pipe_model.specs.declared.record.Record.{Record}
use Rattle.pipe_model.specs.OnLink.{AreFieldsPromised}
use Rattle.pipe_model.specs.PreparedHeld.{ArePreparedHeld}
use Rattle.pipe_model_atomic.specs.AnnouncedOnce.{AreAnnouncedOnce}
use Rattle.pipe_model_atomic.specs.ControlTrue.{IsControlAllTrue}
use Rattle.pipe_model_atomic.specs.CountsTrue.{AreCountsTrue}
use Rattle.pipe_model_atomic.specs.DropsKnownFirst.{AreDropsKnownFirst}
use Rattle.pipe_model_atomic.specs.GoneAreNoted.{AreGoneNoted}
use Rattle.pipe_model_atomic.specs.LiveAreUsed.{AreLiveUsed}
use Rattle.pipe_model_atomic.specs.LiveNotDropped.{AreLiveNotDropped}
use Rattle.pipe_model_atomic.specs.MembersJoined.{AreMembersJoined}
use Rattle.pipe_model_atomic.specs.NoneVoidLogged.{IsNoneVoidLogged}
use Rattle.pipe_model_atomic.specs.NotedFirst.{AreNotedFirst}
use Rattle.pipe_model_atomic.specs.NotedOrCutOff.{AreNotedOrCutOff}
use Rattle.pipe_model_atomic.specs.PresentAreMembers.{ArePresentMembers}
use Rattle.pipe_model_atomic.specs.RecalledInTime.{AreRecallsInTime}
use Rattle.pipe_model_atomic.specs.ReportsAreMarks.{AreReportsMarks}
use Rattle.pipe_model_atomic.specs.TimesPromised.{AreTimesPromised}

-- What bounds the commit barriers.
pub record Bounding (graph : Graph) (past : List Record) : Type 0 where
  -- any two hosts that take part reach each other by links that count
  pub members_joined : AreMembersJoined graph past
  -- a host that was not announced as failed takes part
  pub present_are_members : ArePresentMembers graph past
  -- a host that was announced and takes part no more is noted by all that take part
  pub gone_are_noted : AreGoneNoted graph past
  -- a link that counts is in commit use at its head
  pub live_are_used : AreLiveUsed graph past
  -- on each link the commit barriers that wait or were received are at most what its tail promises
  pub fields_promised : (link : ℕ) → AreFieldsPromised Commit graph link past
  -- a link that is reported counts, and its report is its mark
  pub reports_are_marks : AreReportsMarks graph past
  -- a present host has noted a host that was announced and takes part, or is cut off from it
  pub noted_or_cut_off : AreNotedOrCutOff graph past

-- What nodes and the controller know of each other's lists.
pub record Knowing (graph : Graph) (past : List Record) : Type 0 where
  -- hosts note those that were announced in the order of their announcement
  pub noted_first : AreNotedFirst graph past
  -- nodes come to know dropped links in the order in which they were dropped
  pub drops_known_first : AreDropsKnownFirst graph past
  -- a link that counts was not dropped
  pub live_not_dropped : AreLiveNotDropped graph past
  -- control messages that wait are true
  pub control_true : IsControlAllTrue graph past
  -- so are the counts that the controller keeps
  pub counts_true : AreCountsTrue graph past
  -- each host is announced once
  pub announced_once : AreAnnouncedOnce graph past

-- What becomes of hosts that were announced and of their messages.
pub record Sentences (graph : Graph) (past : List Record) : Type 0 where
  pub bounding : Bounding graph past
  pub knowing : Knowing graph past
  -- the time of a host that was announced is at most what the host promises
  pub times_promised : AreTimesPromised graph past
  -- each receiver of a prepared scattering held it
  pub prepared_held : ArePreparedHeld graph past
  -- receivers get recalls in time
  pub recalls_in_time : AreRecallsInTime graph past
  -- nothing void is in the reliable log of a present host
  pub none_void_logged : IsNoneVoidLogged graph past
