-- What a host logs in a record, and its logs.
use Rattle.std.specs.Prelude.{ℕ, Bool, true, false, List, [], ◌∷◌, ◌++◌, map, filter}
use Rattle.pipe_base.specs.declared.message.Entry.{Entry}
use Rattle.pipe_base.specs.declared.message.Service.{Service}
use Rattle.pipe_base.specs.declared.message.Service.TheVariants.{BestEffort, Reliable}
use Rattle.pipe_base.specs.Failed.{without_void}
use Rattle.pipe_graph.specs.Graph.{Graph}
use Rattle.pipe_base.specs.Messages.{Messages, from_barrier, below_barrier, logged_of, without_keys}
use Rattle.pipe_model.specs.declared.record.Record.{Record}
use Rattle.pipe_model.specs.Moments.{barrier_at}
use Rattle.pipe_model.specs.Fate.{failed_for, plane_of, held, recalled_for}

-- the messages that a host may still log: those held, without those that are void or were taken back
abbrev pub standing : Service → Graph → ℕ → List Record → Messages
standing service graph node own =
    without_keys (recalled_for service graph node own) (without_void (failed_for service own) (held service graph node own))

-- What the record logs of a service, in the total order: the standing messages that its barrier passes in this very record.
abbrev pub passed_in : Service → Graph → ℕ → List Record → Record → Messages
passed_in service graph node own r =
    below_barrier (barrier_at (plane_of service) graph node (r ∷ own))
    (from_barrier (barrier_at (plane_of service) graph node own) (standing service graph node (r ∷ own)))

-- What the record logs: best effort first, then reliable, each by the barrier of its own plane.
abbrev pub logged : Graph → ℕ → List Record → Record → List (Service × Entry)
logged graph node own r =
    logged_of BestEffort (passed_in BestEffort graph node own r) ++ logged_of Reliable (passed_in Reliable graph node own r)

abbrev pub same_service : Service → Service → Bool
same_service BestEffort BestEffort = true
same_service Reliable Reliable = true
same_service _ _ = false

-- the entries of one service
abbrev pub entries_of : Service → List (Service × Entry) → List Entry
entries_of service logged = map (λ e. e.1) (filter (λ e. same_service service e.0) logged)

-- a host's log of a service: all that its own records logged, in order
abbrev pub log : Service → List Record → List Entry
log service [] = []
log service (r ∷ own) = log service own ++ entries_of service r.step.logged
