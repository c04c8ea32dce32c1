-- What the controller knows: who takes part, which links count, what was reported of them, who must go, who was announced.
use Rattle.std.specs.Prelude.{ℕ, ◌==◌, ◌&&◌, max, not, nat_le, nat_lt, if◌then◌else◌, Bool, false, List, [], length, Option, None, Some}
use Rattle.pipe_base.specs.declared.control.Announced.{Announced}
use Rattle.pipe_base.specs.declared.control.Control.{Control}
use Rattle.pipe_base.specs.declared.control.Control.TheVariants.{Done, Down, Gone}
use Rattle.pipe_base.specs.declared.name.HostId.{HostId}
use Rattle.pipe_base.specs.declared.name.LinkId.{LinkId}
use Rattle.pipe_base.specs.declared.name.NodeId.{NodeId}
use Rattle.pipe_base.specs.declared.name.Ts.{Ts}
use Rattle.pipe_base.specs.Failed.{is_announced}
use Rattle.pipe_graph.specs.Graph.{Graph, is_host}
use Rattle.pipe_graph.specs.Reported.{unreported}

-- Sets of hosts and links are tests on their numbers. A live link is one that is not known as dead; a report is the value of a
-- link that went down. The lists are in the order of the decisions. Of each host is kept how many announced hosts it said that
-- it noted, of each node how many dropped links it said that it knows.
pub record View : Type 0 where
  pub members : ℕ → Bool
  pub live : ℕ → Bool
  pub reports : ℕ → Option Ts
  pub doomed : ℕ → Bool
  pub announced : List Announced
  pub dropped : List LinkId
  pub done : ℕ → ℕ
  pub gone : ℕ → ℕ

-- at first all hosts take part, all links are live, and nothing was reported
abbrev pub first_view : Graph → View
first_view graph = record {
  members = is_host graph;
  live = λ l. nat_lt l (length graph.links);
  reports = λ l. None;
  doomed = λ h. false;
  announced = [];
  dropped = [];
  done = λ h. 0;
  gone = λ n. 0;
}

-- the live links without reports
abbrev pub intact : View → ℕ → Bool
intact v = unreported v.live v.reports

-- the hosts that stay: the members that are not doomed
abbrev pub is_kept : View → ℕ → Bool
is_kept v host = v.members host && not (v.doomed host)

-- a doomed host is due until it is announced
abbrev pub is_due : View → ℕ → Bool
is_due v host = v.doomed host && not (is_announced host v.announced)

-- the first report of a live link counts, no other
abbrev pub with_report : LinkId → Ts → View → View
with_report link value v =
    if intact v link.0 then record v { reports = λ l. if l == link.0 then Some value else v.reports l } else v

-- the greatest count of each number, with one more
abbrev pub with_count : ℕ → ℕ → (ℕ → ℕ) → ℕ → ℕ
with_count number count counts n = if n == number then max (counts n) count else counts n

-- a member noted so many of the announced hosts
abbrev pub with_done : HostId → ℕ → View → View
with_done host count v = if v.members host.0
    && nat_le count (length v.announced) then record v { done = with_count host.0 count v.done } else v

-- a node knows so many of the dropped links
abbrev pub with_gone : Graph → NodeId → ℕ → View → View
with_gone graph node count v =
    if nat_lt node.0 graph.nodes
    && nat_le count (length v.dropped) then record v { gone = with_count node.0 count v.gone } else v

-- what a control message tells the controller
abbrev pub after_message : Graph → Control → View → View
after_message graph (Down link value) v = with_report link value v
after_message graph (Done host count) v = with_done host count v
after_message graph (Gone node count) v = with_gone graph node count v
after_message graph _ v = v
