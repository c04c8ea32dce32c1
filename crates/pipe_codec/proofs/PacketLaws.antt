-- The laws of packets as bytes.
use Rattle.std.proofs.Common.{◌≡◌, ℕ, zero, suc, ◌+◌, ◌≤◌, Bool, true, false, cond, not, ltb, eqb, List, [], ◌∷◌, ◌++◌, length, take, drop, Option, Some, None, refl, sym, ap, subst, ◌∙◌, arith}
use Rattle.std.specs.Prelude.{slice_get, slice_index}
use Rattle.std.proofs.lemmas.Bool.{and_from, and_parts, eq-eqb, eqb-true, le-leb, le-ltb, leb-true, ltb-false, ne_eqb, not-false}
use Rattle.std.proofs.lemmas.List.{take-append-drop, length-drop}
use Rattle.pipe_base.specs.declared.packet.Packet.{Packet}
use Rattle.pipe_base.specs.declared.packet.PacketKind.{PacketKind}
use Rattle.pipe_base.specs.declared.packet.PacketKind.TheVariants.{Beacon, Plain, Prepare, Ack, Recall, RecallAck}
use Rattle.pipe_codec.specs.declared.bad.Bad.{Bad}
use Rattle.pipe_codec.specs.declared.bad.Bad.TheVariants.{Short, Version, Field, Length}
use Rattle.pipe_codec.specs.Number.{two_bytes, two_at, six_at}
use Rattle.pipe_codec.specs.Packet.{fault_at_kind, fault_behind_kind, fields_fit, fits_kind, packet_bytes, packet_code, packet_fault, packet_fields, packet_header, packet_kinds, HasKind, IsPacket}
use Rattle.pipe_codec.proofs.FaultLaws.{guard_none}
use Rattle.pipe_codec.proofs.NumberLaws.{AreBytes, first_two, take-next, two_bytes-two_at, six_bytes-six_at, two_at-below, six_at-below, two-again, six-again}

-- ---- reading

abbrev some_kind : PacketKind → Option PacketKind
some_kind kind = Some kind

some-same : (a b : PacketKind) → some_kind a ≡ some_kind b → a ≡ b
some-same a b is = cc

kind-at_code : (kind : PacketKind) → slice_get packet_kinds (packet_code kind) ≡ Some kind
kind-at_code Beacon = refl
kind-at_code Plain = refl
kind-at_code Prepare = refl
kind-at_code Ack = refl
kind-at_code Recall = refl
kind-at_code RecallAck = refl

-- the kind at a place in their order has this place as its code
pub code-at_kind : (code : ℕ) (kind : PacketKind) → slice_get packet_kinds code ≡ Some kind → code ≡ packet_code kind
code-at_kind zero kind is = ap packet_code (some-same Beacon kind is)
code-at_kind (suc zero) kind is = ap packet_code (some-same Plain kind is)
code-at_kind (suc (suc zero)) kind is = ap packet_code (some-same Prepare kind is)
code-at_kind (suc (suc (suc zero))) kind is = ap packet_code (some-same Ack kind is)
code-at_kind (suc (suc (suc (suc zero)))) kind is = ap packet_code (some-same Recall kind is)
code-at_kind (suc (suc (suc (suc (suc zero))))) kind is = ap packet_code (some-same RecallAck kind is)
code-at_kind (suc (suc (suc (suc (suc (suc code)))))) kind is = absurd cc

-- behind a header of a kind the fault is that of its fields
pub fault-at_kind : (kind : PacketKind) (bytes : List ℕ) → HasKind kind bytes → packet_fault bytes ≡ fault_behind_kind kind bytes
unfolding packet_fault
fault-at_kind kind bytes header =
    let long : ltb (length bytes) 26 ≡ false = le-ltb _ _ header.long in
    let version : eqb (slice_index bytes 0) 1 ≡ true = eq-eqb _ _ header.version in
    let found : slice_get packet_kinds (slice_index bytes 1) ≡ Some kind = ap (slice_get packet_kinds) header.code ∙ kind-at_code kind in
    rw (long, version, found) refl

-- the test of the fields, on the bytes
abbrev fit_at : PacketKind → List ℕ → Bool
fit_at kind bytes = fields_fit kind (two_at 2 bytes) (two_at 4 bytes) (six_at 6 bytes) (two_at 24 bytes)

fault-field : (kind : PacketKind) (bytes : List ℕ) → HasKind kind bytes → fit_at kind bytes ≡ false → packet_fault bytes ≡ Some Field
fault-field kind bytes header unfit = fault-at_kind kind bytes header ∙ rw unfit refl

fault-length : (kind : PacketKind) (bytes : List ℕ) → HasKind kind bytes → fit_at kind bytes ≡ true
    → (length (drop 26 bytes) ≡ two_at 24 bytes → ⊥) → packet_fault bytes ≡ Some Length
fault-length kind bytes header fit other =
    let unlike : eqb (length bytes) (26 + two_at 24 bytes) ≡ false =
    ne_eqb _ _ (λ e. other (omega (arith, length-drop 26 bytes, e))) in
    fault-at_kind kind bytes header ∙ rw (fit, unlike) refl

fault-none : (kind : PacketKind) (bytes : List ℕ) → HasKind kind bytes → fit_at kind bytes ≡ true
    → length (drop 26 bytes) ≡ two_at 24 bytes → packet_fault bytes ≡ None
fault-none kind bytes header fit len =
    let long = header.long in
    let same : eqb (length bytes) (26 + two_at 24 bytes) ≡ true = eq-eqb _ _ (omega (arith, length-drop 26 bytes)) in
    fault-at_kind kind bytes header ∙ rw (fit, same) refl

-- the header that is read is the header that is spelled
header-fields : (kind : PacketKind) (bytes : List ℕ) → AreBytes bytes → HasKind kind bytes → length (drop 26 bytes) ≡ two_at 24 bytes
    → packet_header (packet_fields kind bytes) ≡ take 26 bytes
header-fields kind bytes are header len =
    let long = header.long in
    let kind-is : 1 ∷ packet_code kind ∷ [] ≡ take 2 bytes =
    rw (← header.version, ← header.code) (first_two bytes (omega arith)) in
    let src = take-next bytes _ _ 2 2 kind-is (two_bytes-two_at 2 bytes are (omega arith)) in
    let dst = take-next bytes _ _ 4 2 src (two_bytes-two_at 4 bytes are (omega arith)) in
    let ts = take-next bytes _ _ 6 6 dst (six_bytes-six_at 6 bytes are (omega arith)) in
    let be = take-next bytes _ _ 12 6 ts (six_bytes-six_at 12 bytes are (omega arith)) in
    let commit = take-next bytes _ _ 18 6 be (six_bytes-six_at 18 bytes are (omega arith)) in
    take-next bytes _ _ 24 2 commit (ap two_bytes len ∙ two_bytes-two_at 24 bytes are (omega arith))

-- what is read is spelled so
bytes-fields : (kind : PacketKind) (bytes : List ℕ) → AreBytes bytes → HasKind kind bytes → length (drop 26 bytes) ≡ two_at 24 bytes
    → packet_bytes (packet_fields kind bytes) ≡ bytes
unfolding packet_bytes
bytes-fields kind bytes are header len =
    ap (λ (xs : List ℕ). xs ++ drop 26 bytes) (header-fields kind bytes are header len) ∙ take-append-drop 26 bytes

-- what is read is a packet
fields-packet : (kind : PacketKind) (bytes : List ℕ) → AreBytes bytes
    → fit_at kind bytes ≡ true
    → length (drop 26 bytes) ≡ two_at 24 bytes → IsPacket (packet_fields kind bytes)
fields-packet kind bytes are fit len =
    let fitting = and_parts _ _ fit in
    let sizes = and_parts _ _ fitting.0 in
    record {
      sendable = record {
        stamp = leb-true _ _ sizes.0;
        best_effort = six_at-below 12 bytes are;
        commit = six_at-below 18 bytes are;
        kind = ap (λ (n : ℕ). fits_kind kind (two_at 2 bytes) (two_at 4 bytes) (six_at 6 bytes) n) len ∙ fitting.1;
      };
      src = two_at-below 2 bytes are;
      dst = two_at-below 4 bytes are;
      body = rw len (leb-true _ _ sizes.1);
    }

-- ---- writing

-- the fields of a spelling are those of the packet
pub fields-bytes : (p : Packet) → IsPacket p → packet_fields p.kind (packet_bytes p) ≡ p
unfolding packet_bytes two_at six_at
fields-bytes p is =
    let src = two-again p.src.0 is.src in
    let dst = two-again p.dst.0 is.dst in
    let ts = six-again p.ts.0 (omega (arith, is.sendable.stamp)) in
    let be = six-again p.be.0 is.sendable.best_effort in
    let commit = six-again p.commit.0 is.sendable.commit in
    rw (src, dst, ts, be, commit) refl

pub length-bytes : (p : Packet) → length (packet_bytes p) ≡ 26 + length p.body
unfolding packet_bytes
length-bytes p = omega arith

-- a header and a body together
pub bytes-parts : (p : Packet) (header body : List ℕ) → header ≡ packet_header p → body ≡ p.body → header ++ body ≡ packet_bytes p
unfolding packet_bytes
bytes-parts p header body header-is body-is =
    ap (λ (xs : List ℕ). xs ++ body) header-is ∙ ap (λ (xs : List ℕ). packet_header p ++ xs) body-is

len-bytes : (p : Packet) → IsPacket p → two_at 24 (packet_bytes p) ≡ length p.body
unfolding packet_bytes two_at
len-bytes p is = two-again (length p.body) (omega (arith, is.body))

bytes-kind : (p : Packet) → HasKind p.kind (packet_bytes p)
unfolding packet_bytes
bytes-kind p = record { long = omega arith; version = refl; code = refl }

-- a spelling has no fault
pub fault-bytes : (p : Packet) → IsPacket p → packet_fault (packet_bytes p) ≡ None
fault-bytes p is =
    let fields = fields-bytes p is in
    let src : two_at 2 (packet_bytes p) ≡ p.src.0 = ap (λ (q : Packet). q.src.0) fields in
    let dst : two_at 4 (packet_bytes p) ≡ p.dst.0 = ap (λ (q : Packet). q.dst.0) fields in
    let ts : six_at 6 (packet_bytes p) ≡ p.ts.0 = ap (λ (q : Packet). q.ts.0) fields in
    let len = len-bytes p is in
    let fit : fit_at p.kind (packet_bytes p) ≡ true =
    rw (src, dst, ts, len) (and_from _ _ (and_from _ _ (le-leb _ _ is.sendable.stamp) (le-leb _ _ is.body)) is.sendable.kind) in
    fault-none p.kind (packet_bytes p) (bytes-kind p) fit (omega (arith, length-drop 26 (packet_bytes p), length-bytes p, len))

kind-same : (p q : Packet) → packet_bytes p ≡ packet_bytes q → p.kind ≡ q.kind
kind-same p q same =
    let found : Some p.kind ≡ Some q.kind =
    sym (kind-at_code p.kind) ∙ ap (slice_get packet_kinds) (sym (bytes-kind p).code)
    ∙ ap (λ (xs : List ℕ). slice_get packet_kinds (slice_index xs 1)) same
    ∙ ap (slice_get packet_kinds) (bytes-kind q).code ∙ kind-at_code q.kind in
    cc

-- a spelling is that of one packet
pub bytes-same : (p q : Packet) → IsPacket p → IsPacket q → packet_bytes p ≡ packet_bytes q → p ≡ q
bytes-same p q p-is q-is same =
    sym (fields-bytes p p-is) ∙ ap (λ (kind : PacketKind). packet_fields kind (packet_bytes p)) (kind-same p q same)
    ∙ ap (packet_fields q.kind) same ∙ fields-bytes q q-is

-- bytes with a fault are no spelling
pub fault-not_bytes : (p : Packet) (bytes : List ℕ) (bad : Bad) → IsPacket p → packet_bytes p ≡ bytes → packet_fault bytes ≡ Some bad → ⊥
fault-not_bytes p bytes bad is same fault =
    let none : packet_fault bytes ≡ None = ap packet_fault (sym same) ∙ fault-bytes p is in
    cc

-- ---- what a reader has read

-- the header of a kind with its fields, and the length that it tells
pub record IsRead (kind : PacketKind) (bytes : List ℕ) (p : Packet) (len : ℕ) : Type 0 where
  pub header : HasKind kind bytes
  pub fields : p ≡ packet_fields kind bytes
  pub len_is : len ≡ two_at 24 bytes

fit-read : (kind : PacketKind) (bytes : List ℕ) (p : Packet) (len : ℕ) → IsRead kind bytes p len
    → fit_at kind bytes ≡ fields_fit p.kind p.src.0 p.dst.0 p.ts.0 len
fit-read kind bytes p len read =
    sym (ap (λ (q : Packet). fields_fit q.kind q.src.0 q.dst.0 q.ts.0 len) read.fields
    ∙ ap (λ (n : ℕ). fields_fit kind (two_at 2 bytes) (two_at 4 bytes) (six_at 6 bytes) n) read.len_is)

body-read : (kind : PacketKind) (bytes : List ℕ) (p : Packet) (len : ℕ) → IsRead kind bytes p len
    → length p.body ≡ len → length (drop 26 bytes) ≡ two_at 24 bytes
body-read kind bytes p len read same = sym (ap (λ (q : Packet). length q.body) read.fields) ∙ same ∙ read.len_is

pub read-unfit : (kind : PacketKind) (bytes : List ℕ) (p : Packet) (len : ℕ) → IsRead kind bytes p len
    → fields_fit p.kind p.src.0 p.dst.0 p.ts.0 len ≡ false → packet_fault bytes ≡ Some Field
read-unfit kind bytes p len read unfit = fault-field kind bytes read.header (fit-read kind bytes p len read ∙ unfit)

pub read-other_length : (kind : PacketKind) (bytes : List ℕ) (p : Packet) (len : ℕ) → IsRead kind bytes p len
    → fields_fit p.kind p.src.0 p.dst.0 p.ts.0 len ≡ true → (length p.body ≡ len → ⊥) → packet_fault bytes ≡ Some Length
read-other_length kind bytes p len read fit other =
    fault-length kind bytes read.header (fit-read kind bytes p len read ∙ fit)
    (λ e. other (ap (λ (q : Packet). length q.body) read.fields ∙ e ∙ sym read.len_is))

pub read-none : (kind : PacketKind) (bytes : List ℕ) (p : Packet) (len : ℕ) → IsRead kind bytes p len
    → fields_fit p.kind p.src.0 p.dst.0 p.ts.0 len ≡ true → length p.body ≡ len → packet_fault bytes ≡ None
read-none kind bytes p len read fit same =
    fault-none kind bytes read.header (fit-read kind bytes p len read ∙ fit) (body-read kind bytes p len read same)

-- what is read is a packet, and it is spelled so
pub read-spells : (kind : PacketKind) (bytes : List ℕ) (p : Packet) (len : ℕ) → AreBytes bytes → IsRead kind bytes p len
    → fields_fit p.kind p.src.0 p.dst.0 p.ts.0 len ≡ true → length p.body ≡ len → IsPacket p × (packet_bytes p ≡ bytes)
read-spells kind bytes p len are read fit same =
    let body = body-read kind bytes p len read same in
    subst (λ (q : Packet). IsPacket q × (packet_bytes q ≡ bytes)) (sym read.fields)
    (fields-packet kind bytes are (fit-read kind bytes p len read ∙ fit) body, bytes-fields kind bytes are read.header body)

-- ---- bytes without a fault

abbrev Spelled : List ℕ → Type 0
Spelled bytes = (p : Packet) × IsPacket p × (packet_bytes p ≡ bytes)

faultless_at : (found : Option PacketKind) (bytes : List ℕ) → AreBytes bytes → 26 ≤ length bytes → slice_index bytes 0 ≡ 1
    → slice_get packet_kinds (slice_index bytes 1) ≡ found → fault_at_kind found bytes ≡ None → Spelled bytes
faultless_at None bytes are long version found none = absurd cc
faultless_at (Some kind) bytes are long version found none =
    let field = guard_none (not (fit_at kind bytes)) Field _ none in
    let total = guard_none (not (eqb (length bytes) (26 + two_at 24 bytes))) Length None field.1 in
    let fit = not-false _ field.0 in
    let same : length bytes ≡ 26 + two_at 24 bytes = eqb-true _ _ (not-false _ total.0) in
    let header : HasKind kind bytes = record { long = long; version = version; code = code-at_kind _ kind found } in
    let body : length (drop 26 bytes) ≡ two_at 24 bytes = omega (arith, length-drop 26 bytes) in
    (packet_fields kind bytes, fields-packet kind bytes are fit body, bytes-fields kind bytes are header body)

-- bytes without a fault are the spelling of a packet
pub faultless : (bytes : List ℕ) → AreBytes bytes → packet_fault bytes ≡ None → Spelled bytes
unfolding packet_fault
faultless bytes are none =
    let behind = fault_at_kind (slice_get packet_kinds (slice_index bytes 1)) bytes in
    let short = guard_none (ltb (length bytes) 26) Short (cond (not (eqb (slice_index bytes 0) 1)) (Some Version) behind) none in
    let version = guard_none (not (eqb (slice_index bytes 0) 1)) Version behind short.1 in
    faultless_at _ bytes are (ltb-false _ _ short.0) (eqb-true _ _ (not-false _ version.0)) refl version.1

pub ruleset kind_codes = (code-at_kind)
