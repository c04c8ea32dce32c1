-- Control messages as bytes: the one spelling of each, and the first fault of bytes that spell none.
use Rattle.std.specs.Prelude.{◌≡◌, ℕ, ◌+◌, ◌*◌, ◌%◌, ◌^◌, ◌<◌, ◌≤◌, ◌==◌, ◌&&◌, not, nat_lt, nat_le, Bool, true, if◌then◌else◌, List, [], ◌∷◌, ◌++◌, length, drop, find, slice_index, Option, Some, None, All}
use Rattle.std.specs.List.{flat_map}
use Rattle.pipe_base.specs.declared.control.Addressed.{Addressed}
use Rattle.pipe_base.specs.declared.control.Announced.{Announced}
use Rattle.pipe_base.specs.declared.control.Control.{Control}
use Rattle.pipe_base.specs.declared.control.Control.TheVariants as message
use Rattle.pipe_base.specs.declared.control.To.{To}
use Rattle.pipe_base.specs.declared.control.To.TheVariants.{Controller, Node}
use Rattle.pipe_base.specs.declared.name.LinkId.{LinkId}
use Rattle.pipe_codec.specs.declared.bad.Bad.{Bad}
use Rattle.pipe_codec.specs.declared.bad.Bad.TheVariants.{Short, Version, Kind, Field, Length}
use Rattle.pipe_codec.specs.declared.control_kind.ControlKind.{ControlKind}
use Rattle.pipe_codec.specs.declared.control_kind.ControlKind.TheVariants.{Down, Freeze, Notice, Done, DropLinks, Gone}
use Rattle.pipe_codec.specs.Number.{two_bytes, six_bytes, two_at}

-- ---- the grammar

-- the hosts of one notice
abbrev pub most_announced : ℕ
most_announced = 64

-- the links that one message drops
abbrev pub most_dropped : ℕ
most_dropped = 1088

-- the number of a receiver: its own, or the last for the controller
abbrev pub receiver_number : To → ℕ
receiver_number Controller = 65535
receiver_number (Node node) = node.0

-- no node has the controller's number
abbrev pub IsReceiver : To → Type 0
IsReceiver Controller = Unit {0}
IsReceiver (Node node) = node.0 < 65535

-- lists are not empty and not too long, and times fit their bytes
abbrev pub HasContents : Control → Type 0
HasContents (message.Down link value) = value.0 < 2 ^ 48
HasContents (message.Notice list) = (1 ≤ length list) × (length list ≤ most_announced)
    × All (λ e. e.time.0 < 2 ^ 48) list
HasContents (message.DropLinks links) = (1 ≤ length links) × (length links ≤ most_dropped)
HasContents (message.Freeze link) = Unit {0}
HasContents (message.Done host count) = Unit {0}
HasContents (message.Gone node count) = Unit {0}

-- a message whose parts fit their bytes, as far as the types of the parts do not say so
pub record IsSendableControl (a : Addressed) : Type 0 where
  pub to : IsReceiver a.to
  pub contents : HasContents a.control

-- hosts, nodes, links and counts have two bytes
abbrev pub HasTwoByteNames : Control → Type 0
HasTwoByteNames (message.Down link value) = link.0 < 2 ^ 16
HasTwoByteNames (message.Freeze link) = link.0 < 2 ^ 16
HasTwoByteNames (message.Notice list) = All (λ e. e.host.0 < 2 ^ 16) list
HasTwoByteNames (message.Done host count) = (host.0 < 2 ^ 16) × (count < 2 ^ 16)
HasTwoByteNames (message.DropLinks links) = All (λ l. l.0 < 2 ^ 16) links
HasTwoByteNames (message.Gone node count) = (node.0 < 2 ^ 16) × (count < 2 ^ 16)

-- a message that has a spelling
pub record IsControl (a : Addressed) : Type 0 where
  pub sendable : IsSendableControl a
  pub names : HasTwoByteNames a.control

-- ---- the spelling

-- the kind of a message
abbrev pub control_kind : Control → ControlKind
control_kind (message.Down _ _) = Down
control_kind (message.Freeze _) = Freeze
control_kind (message.Notice _) = Notice
control_kind (message.Done _ _) = Done
control_kind (message.DropLinks _) = DropLinks
control_kind (message.Gone _ _) = Gone

-- the code of a kind
abbrev pub control_code : ControlKind → ℕ
control_code Down = 16
control_code Freeze = 17
control_code Notice = 18
control_code Done = 19
control_code DropLinks = 20
control_code Gone = 21

-- all kinds, in the order of their codes
abbrev pub control_kinds : List ControlKind
control_kinds = Down ∷ Freeze ∷ Notice ∷ Done ∷ DropLinks ∷ Gone ∷ []

-- a failed host and its time
abbrev pub announced_bytes : Announced → List ℕ
announced_bytes e = two_bytes e.host.0 ++ six_bytes e.time.0

-- a dropped link
abbrev pub link_bytes : LinkId → List ℕ
link_bytes l = two_bytes l.0

-- what stands behind the header, entries and links in order
abbrev pub contents_bytes : Control → List ℕ
contents_bytes (message.Down link value) = two_bytes link.0 ++ six_bytes value.0
contents_bytes (message.Freeze link) = two_bytes link.0
contents_bytes (message.Notice list) = flat_map announced_bytes list
contents_bytes (message.Done host count) = two_bytes host.0 ++ two_bytes count
contents_bytes (message.DropLinks links) = flat_map link_bytes links
contents_bytes (message.Gone node count) = two_bytes node.0 ++ two_bytes count

-- the version and the kind, then the receiver and the length of the contents
abbrev pub control_header : ControlKind → ℕ → ℕ → List ℕ
control_header kind to contents = 1 ∷ control_code kind ∷ two_bytes to ++ two_bytes contents

-- the one spelling of a control message
unfoldable pub control_bytes : Addressed → List ℕ
control_bytes a =
    control_header (control_kind a.control) (receiver_number a.to) (length (contents_bytes a.control)) ++ contents_bytes a.control

-- ---- the faults

-- a message of the kind has contents of this length
abbrev pub length_fits : ControlKind → ℕ → Bool
length_fits Down len = len == 8
length_fits Freeze len = len == 2
length_fits Notice len = (len % 8 == 0) && nat_le 8 len && nat_le len (8 * most_announced)
length_fits Done len = len == 4
length_fits DropLinks len = (len % 2 == 0) && nat_le 2 len && nat_le len (2 * most_dropped)
length_fits Gone len = len == 4

-- the first fault where this is the kind, if there is one
abbrev pub fault_at_control_kind : Option ControlKind → List ℕ → Option Bad
fault_at_control_kind None bytes = Some Kind
fault_at_control_kind (Some kind) bytes =
    if not (length_fits kind (two_at 4 bytes)) then Some Field
    else if not (length bytes == 6 + two_at 4 bytes) then Some Length
    else None

-- the first fault of bytes that spell no control message
unfoldable pub control_fault : List ℕ → Option Bad
control_fault bytes =
    if nat_lt (length bytes) 6 then Some Short
    else if not (slice_index bytes 0 == 1) then Some Version
    else fault_at_control_kind (find (λ kind. control_code kind == slice_index bytes 1) control_kinds) bytes

-- ---- what is read

-- a header of this version with the code of this kind
pub record HasControlKind (kind : ControlKind) (bytes : List ℕ) : Type 0 where
  pub long : 6 ≤ length bytes
  pub version : slice_index bytes 0 ≡ 1
  pub code : slice_index bytes 1 ≡ control_code kind

-- a header of this kind with contents of its length
pub record IsWhole (kind : ControlKind) (bytes : List ℕ) : Type 0 where
  pub header : HasControlKind kind bytes
  pub fits : length_fits kind (length (drop 6 bytes)) ≡ true
  pub len : length (drop 6 bytes) ≡ two_at 4 bytes

-- a message of this kind with these contents
pub record IsReadAs (kind : ControlKind) (contents : List ℕ) (control : Control) : Type 0 where
  pub kind_is : control_kind control ≡ kind
  pub spelled : contents_bytes control ≡ contents
  pub fits : HasContents control
  pub names : HasTwoByteNames control
