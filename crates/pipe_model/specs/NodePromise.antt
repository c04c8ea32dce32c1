-- What a node promises in a plane: a bound on all fields of the plane that it put so far.
use Rattle.std.specs.Prelude.{ℕ, if◌then◌else◌, List}
use Rattle.pipe_base.specs.declared.packet.Plane.{Plane}
use Rattle.pipe_base.specs.declared.packet.Plane.TheVariants.{BestEffort, Commit}
use Rattle.pipe_graph.specs.Graph.{Graph, is_host}
use Rattle.pipe_model.specs.declared.record.Record.{Record}
use Rattle.pipe_model.specs.Clock.{next, promise}
use Rattle.pipe_model.specs.Moments.{barrier_at}

-- a host promises its next timestamp on best effort, and on commit the least timestamp that is not settled
abbrev pub host_promise : Plane → Graph → ℕ → List Record → ℕ
host_promise BestEffort graph node own = next graph node own
host_promise Commit graph node own = promise graph node own

-- a half promises its barrier
abbrev pub node_promise : Plane → Graph → ℕ → List Record → ℕ
node_promise plane graph node own =
    if is_host graph node then host_promise plane graph node own else barrier_at plane graph node own
