-- The laws of control messages as bytes.
use Rattle.std.proofs.Common.{◌≡◌, ℕ, ◌+◌, ◌*◌, ◌%◌, ◌^◌, ◌<◌, ◌≤◌, ◌==◌, true, false, cond, not, ◌&&◌, ltb, leb, eqb, List, [], ◌∷◌, ◌++◌, length, take, drop, Option, Some, None, refl, sym, ap, subst, ◌∙◌, arith, inl, inr}
use Rattle.std.specs.Prelude.{find, slice_index, All}
use Rattle.std.specs.Int.{w16, w64, from_be_bytes}
use Rattle.std.specs.List.{flat_map}
use Rattle.std.proofs.lemmas.Bool.{and_from, and_parts, cases_Bool, cases_lt, eq-eqb, eqb-true, le-leb, le-ltb, leb-true, ltb-false, ne_eqb, not-false}
use Rattle.std.proofs.lemmas.List.{length-append, length-drop, length-take-le, take-append-drop}
use Rattle.std.proofs.lemmas.List.Elements.{All-cons, All-head, All-nil, All-push, All-tail}
use Rattle.pipe_base.specs.declared.control.Addressed.{Addressed}
use Rattle.pipe_base.specs.declared.control.Announced.{Announced}
use Rattle.pipe_base.specs.declared.control.Control.{Control}
use Rattle.pipe_base.specs.declared.control.Control.TheVariants as message
use Rattle.pipe_base.specs.declared.control.To.{To}
use Rattle.pipe_base.specs.declared.control.To.TheVariants.{Controller, Node}
use Rattle.pipe_base.specs.declared.name.LinkId.{LinkId}
use Rattle.pipe_codec.specs.declared.bad.Bad.{Bad}
use Rattle.pipe_codec.specs.declared.bad.Bad.TheVariants.{Short, Version, Field, Length}
use Rattle.pipe_codec.specs.declared.control_kind.ControlKind.{ControlKind}
use Rattle.pipe_codec.specs.declared.control_kind.ControlKind.TheVariants.{Down, Freeze, Notice, Done, DropLinks, Gone}
use Rattle.pipe_codec.specs.Number.{two_bytes, six_bytes, two_at, six_at}
use Rattle.pipe_codec.specs.Control.{announced_bytes, contents_bytes, control_bytes, control_code, control_fault, control_header, control_kind, control_kinds, fault_at_control_kind, length_fits, link_bytes, receiver_number, HasContents, HasControlKind, HasTwoByteNames, IsControl, IsReadAs, IsReceiver, IsWhole}
use Rattle.pipe_codec.proofs.FaultLaws.{guard_none}
use Rattle.pipe_codec.proofs.NumberLaws.{AreBytes, AreBytes-behind, AreBytes-drop, AreBytes-take, counted-read, first_two, one-read, six-again, six_at-below, take-next, timed-read, two-again, two_at-below, two_bytes-two_at}
use Rattle.pipe_codec.proofs.ItemLaws.{all-read, length-items, read-more}

-- ---- faults

abbrev some_kind : ControlKind → Option ControlKind
some_kind kind = Some kind

kind-at_code : (kind : ControlKind) → find (λ k. eqb (control_code k) (control_code kind)) control_kinds ≡ Some kind
kind-at_code Down = refl
kind-at_code Freeze = refl
kind-at_code Notice = refl
kind-at_code Done = refl
kind-at_code DropLinks = refl
kind-at_code Gone = refl

-- behind a header of a kind the fault is that of its length
fault-at_kind : (kind : ControlKind) (bytes : List ℕ) → HasControlKind kind bytes → control_fault bytes ≡ fault_at_control_kind (Some kind) bytes
unfolding control_fault
fault-at_kind kind bytes header =
    let long : ltb (length bytes) 6 ≡ false = le-ltb _ _ header.long in
    let version : eqb (slice_index bytes 0) 1 ≡ true = eq-eqb _ _ header.version in
    let found : find (λ k. eqb (control_code k) (slice_index bytes 1)) control_kinds ≡ Some kind =
    ap (λ (n : ℕ). find (λ k. eqb (control_code k) n) control_kinds) header.code ∙ kind-at_code kind in
    rw (long, version, found) refl

pub fault-field : (kind : ControlKind) (bytes : List ℕ) (len : ℕ) → HasControlKind kind bytes → len ≡ two_at 4 bytes
    → length_fits kind len ≡ false → control_fault bytes ≡ Some Field
fault-field kind bytes len header len-is unfit =
    let unfit_at : length_fits kind (two_at 4 bytes) ≡ false = ap (length_fits kind) (sym len-is) ∙ unfit in
    fault-at_kind kind bytes header ∙ rw unfit_at refl

pub fault-length : (kind : ControlKind) (bytes : List ℕ) (len : ℕ) → HasControlKind kind bytes → len ≡ two_at 4 bytes
    → length_fits kind len ≡ true → (length bytes ≡ 6 + len → ⊥) → control_fault bytes ≡ Some Length
fault-length kind bytes len header len-is fit other =
    let fit_at : length_fits kind (two_at 4 bytes) ≡ true = ap (length_fits kind) (sym len-is) ∙ fit in
    let unlike : eqb (length bytes) (6 + two_at 4 bytes) ≡ false = ne_eqb _ _ (λ e. other (omega (arith, e))) in
    fault-at_kind kind bytes header ∙ rw (fit_at, unlike) refl

pub fault-whole : (kind : ControlKind) (bytes : List ℕ) → IsWhole kind bytes → control_fault bytes ≡ None
fault-whole kind bytes whole =
    let long = whole.header.long in
    let len = whole.len in
    let fit_at : length_fits kind (two_at 4 bytes) ≡ true = ap (length_fits kind) (sym len) ∙ whole.fits in
    let same : eqb (length bytes) (6 + two_at 4 bytes) ≡ true = eq-eqb _ _ (omega (arith, length-drop 6 bytes)) in
    fault-at_kind kind bytes whole.header ∙ rw (fit_at, same) refl

-- ---- sizes

pub size-announced : (e : Announced) → length (announced_bytes e) ≡ 8
size-announced e = refl

pub size-link : (l : LinkId) → length (link_bytes l) ≡ 2
size-link l = refl

pub length-announced : (list : List Announced) → length (flat_map announced_bytes list) ≡ 8 * length list
length-announced list = length-items announced_bytes 8 size-announced list

pub length-links : (links : List LinkId) → length (flat_map link_bytes links) ≡ 2 * length links
length-links links = length-items link_bytes 2 size-link links

fits-contents : (c : Control) → HasContents c → length_fits (control_kind c) (length (contents_bytes c)) ≡ true
fits-contents (message.Down link value) has = refl
fits-contents (message.Freeze link) has = refl
fits-contents (message.Notice list) has =
    let some = has.0 in
    let few = has.1 in
    let len = length-announced list in
    let whole : length (flat_map announced_bytes list) % 8 ≡ 0 = omega arith in
    let least : 8 ≤ length (flat_map announced_bytes list) = omega arith in
    let most : length (flat_map announced_bytes list) ≤ 512 = omega arith in
    and_from _ _ (and_from _ _ (eq-eqb _ _ whole) (le-leb _ _ least)) (le-leb _ _ most)
fits-contents (message.Done host count) has = refl
fits-contents (message.DropLinks links) has =
    let some = has.0 in
    let few = has.1 in
    let len = length-links links in
    let whole : length (flat_map link_bytes links) % 2 ≡ 0 = omega arith in
    let least : 2 ≤ length (flat_map link_bytes links) = omega arith in
    let most : length (flat_map link_bytes links) ≤ 2176 = omega arith in
    and_from _ _ (and_from _ _ (eq-eqb _ _ whole) (le-leb _ _ least)) (le-leb _ _ most)
fits-contents (message.Gone node count) has = refl

pub short-contents : (c : Control) → HasContents c → length (contents_bytes c) < 2 ^ 16
short-contents (message.Down link value) has = omega arith
short-contents (message.Freeze link) has = omega arith
short-contents (message.Notice list) has =
    let few = has.1 in
    omega (arith, length-announced list)
short-contents (message.Done host count) has = omega arith
short-contents (message.DropLinks links) has =
    let few = has.1 in
    omega (arith, length-links links)
short-contents (message.Gone node count) has = omega arith

-- ---- what is read

-- the contents of each kind are spelled as they were read
pub read-down : (contents : List ℕ) (link value : ℕ) → AreBytes contents → length_fits Down (length contents) ≡ true
    → link ≡ two_at 0 contents → value ≡ six_at 2 contents → IsReadAs Down contents (message.Down (record { 0 = link }) (record { 0 = value }))
read-down contents link value are fit link-is value-is = record {
  kind_is = refl;
  spelled = rw (link-is, value-is) (timed-read contents are (eqb-true _ _ fit));
  fits = rw value-is (six_at-below 2 contents are);
  names = rw link-is (two_at-below 0 contents are);
}

pub read-freeze : (contents : List ℕ) (link : ℕ) → AreBytes contents → length_fits Freeze (length contents) ≡ true
    → link ≡ two_at 0 contents → IsReadAs Freeze contents (message.Freeze (record { 0 = link }))
read-freeze contents link are fit link-is = record {
  kind_is = refl;
  spelled = rw link-is (one-read contents are (eqb-true _ _ fit));
  fits = tt;
  names = rw link-is (two_at-below 0 contents are);
}

pub read-done : (contents : List ℕ) (host count : ℕ) → AreBytes contents → length_fits Done (length contents) ≡ true
    → host ≡ two_at 0 contents → count ≡ two_at 2 contents → IsReadAs Done contents (message.Done (record { 0 = host }) count)
read-done contents host count are fit host-is count-is = record {
  kind_is = refl;
  spelled = rw (host-is, count-is) (counted-read contents are (eqb-true _ _ fit));
  fits = tt;
  names = (rw host-is (two_at-below 0 contents are), rw count-is (two_at-below 2 contents are));
}

pub read-gone : (contents : List ℕ) (node count : ℕ) → AreBytes contents → length_fits Gone (length contents) ≡ true
    → node ≡ two_at 0 contents → count ≡ two_at 2 contents → IsReadAs Gone contents (message.Gone (record { 0 = node }) count)
read-gone contents node count are fit node-is count-is = record {
  kind_is = refl;
  spelled = rw (node-is, count-is) (counted-read contents are (eqb-true _ _ fit));
  fits = tt;
  names = (rw node-is (two_at-below 0 contents are), rw count-is (two_at-below 2 contents are));
}

pub read-notice : (contents : List ℕ) (list : List Announced) → length_fits Notice (length contents) ≡ true
    → flat_map announced_bytes list ≡ contents → All (λ e. e.time.0 < 2 ^ 48) list × All (λ e. e.host.0 < 2 ^ 16) list
    → IsReadAs Notice contents (message.Notice list)
read-notice contents list fit spelled each =
    let sizes = and_parts ((length contents % 8 == 0) && leb 8 (length contents)) (leb (length contents) 512) fit in
    let least : 8 ≤ length contents = leb-true _ _ (and_parts (length contents % 8 == 0) (leb 8 (length contents)) sizes.0).1 in
    let most : length contents ≤ 512 = leb-true _ _ sizes.1 in
    let len = length-announced list in
    let same = ap length spelled in
    record { kind_is = refl; spelled = spelled; fits = (omega arith, omega arith, each.0); names = each.1 }

pub read-drop_links : (contents : List ℕ) (links : List LinkId) → length_fits DropLinks (length contents) ≡ true
    → flat_map link_bytes links ≡ contents → All (λ l. l.0 < 2 ^ 16) links → IsReadAs DropLinks contents (message.DropLinks links)
read-drop_links contents links fit spelled each =
    let sizes = and_parts ((length contents % 2 == 0) && leb 2 (length contents)) (leb (length contents) 2176) fit in
    let least : 2 ≤ length contents = leb-true _ _ (and_parts (length contents % 2 == 0) (leb 2 (length contents)) sizes.0).1 in
    let most : length contents ≤ 2176 = leb-true _ _ sizes.1 in
    let len = length-links links in
    let same = ap length spelled in
    record { kind_is = refl; spelled = spelled; fits = (omega arith, omega arith); names = each }

-- entries that were read, and the bytes that are left
pub record AnnouncedRead (list : List Announced) (rest whole : List ℕ) : Type 0 where
  pub spelled : flat_map announced_bytes list ++ rest ≡ whole
  pub times : All (λ e. e.time.0 < 2 ^ 48) list
  pub hosts : All (λ e. e.host.0 < 2 ^ 16) list

-- links that were read, and the bytes that are left
pub record LinksRead (links : List LinkId) (rest whole : List ℕ) : Type 0 where
  pub spelled : flat_map link_bytes links ++ rest ≡ whole
  pub names : All (λ l. l.0 < 2 ^ 16) links

pub more-announced : (list longer : List Announced) (host time : ℕ) (rest entry after whole : List ℕ) → AreBytes whole → 8 ≤ length rest
    → entry ≡ take 8 rest → after ≡ drop 8 rest → host ≡ two_at 0 entry → time ≡ six_at 2 entry
    → longer ≡ list ++ record { host = record { 0 = host }; time = record { 0 = time } } ∷ []
    → flat_map announced_bytes list ++ rest ≡ whole → All (λ e. e.time.0 < 2 ^ 48) list → All (λ e. e.host.0 < 2 ^ 16) list
    → AnnouncedRead longer after whole
more-announced list longer host time rest entry after whole are long entry-is after-is host-is time-is longer-is spelled times hosts =
    let x : Announced = record { host = record { 0 = host }; time = record { 0 = time } } in
    let part : AreBytes entry = subst AreBytes (sym entry-is) (AreBytes-take 8 rest (AreBytes-behind (flat_map announced_bytes list) rest whole are spelled)) in
    let eight : length entry ≡ 8 = ap length entry-is ∙ length-take-le 8 rest long in
    let item : announced_bytes x ≡ entry = rw (host-is, time-is) (timed-read entry part eight) in
    let whole_rest : announced_bytes x ++ after ≡ rest = ap (λ (xs : List ℕ). xs ++ after) (item ∙ entry-is)
    ∙ ap (λ (xs : List ℕ). take 8 rest ++ xs) after-is ∙ take-append-drop 8 rest in
    subst (λ (xs : List Announced). AnnouncedRead xs after whole) (sym longer-is) (record {
      spelled = read-more announced_bytes list x rest after whole whole_rest spelled;
      times = All-push (λ (e : Announced). e.time.0 < 2 ^ 48) list x times (rw time-is (six_at-below 2 entry part));
      hosts = All-push (λ (e : Announced). e.host.0 < 2 ^ 16) list x hosts (rw host-is (two_at-below 0 entry part));
    })

pub all-announced : (list : List Announced) (rest whole : List ℕ) → length whole % 8 ≡ 0 → length rest < 8
    → flat_map announced_bytes list ++ rest ≡ whole → flat_map announced_bytes list ≡ whole
all-announced list rest whole even short spelled =
    let size = length-announced list in
    let both : length (flat_map announced_bytes list) + length rest ≡ length whole = sym (length-append (flat_map announced_bytes list) rest) ∙ ap length spelled in
    let none : length rest ≡ 0 = omega arith in
    all-read (flat_map announced_bytes list) rest whole none spelled

pub more-links : (links longer : List LinkId) (link : ℕ) (rest entry after whole : List ℕ) → AreBytes whole → 2 ≤ length rest
    → entry ≡ take 2 rest → after ≡ drop 2 rest → link ≡ two_at 0 entry → longer ≡ links ++ record { 0 = link } ∷ []
    → flat_map link_bytes links ++ rest ≡ whole → All (λ l. l.0 < 2 ^ 16) links → LinksRead longer after whole
more-links links longer link rest entry after whole are long entry-is after-is link-is longer-is spelled names =
    let x : LinkId = record { 0 = link } in
    let part : AreBytes entry = subst AreBytes (sym entry-is) (AreBytes-take 2 rest (AreBytes-behind (flat_map link_bytes links) rest whole are spelled)) in
    let two : length entry ≡ 2 = ap length entry-is ∙ length-take-le 2 rest long in
    let item : link_bytes x ≡ entry = rw link-is (one-read entry part two) in
    let whole_rest : link_bytes x ++ after ≡ rest = ap (λ (xs : List ℕ). xs ++ after) (item ∙ entry-is)
    ∙ ap (λ (xs : List ℕ). take 2 rest ++ xs) after-is ∙ take-append-drop 2 rest in
    subst (λ (xs : List LinkId). LinksRead xs after whole) (sym longer-is) (record {
      spelled = read-more link_bytes links x rest after whole whole_rest spelled;
      names = All-push (λ (l : LinkId). l.0 < 2 ^ 16) links x names (rw link-is (two_at-below 0 entry part));
    })

pub all-links : (links : List LinkId) (rest whole : List ℕ) → length whole % 2 ≡ 0 → length rest < 2
    → flat_map link_bytes links ++ rest ≡ whole → flat_map link_bytes links ≡ whole
all-links links rest whole even short spelled =
    let size = length-links links in
    let both : length (flat_map link_bytes links) + length rest ≡ length whole = sym (length-append (flat_map link_bytes links) rest) ∙ ap length spelled in
    let none : length rest ≡ 0 = omega arith in
    all-read (flat_map link_bytes links) rest whole none spelled

header-read : (kind : ControlKind) (bytes : List ℕ) → AreBytes bytes → IsWhole kind bytes
    → control_header kind (two_at 2 bytes) (length (drop 6 bytes)) ≡ take 6 bytes
header-read kind bytes are whole =
    let long = whole.header.long in
    let kind-is : 1 ∷ control_code kind ∷ [] ≡ take 2 bytes =
    rw (← whole.header.version, ← whole.header.code) (first_two bytes (omega arith)) in
    let to = take-next bytes _ _ 2 2 kind-is (two_bytes-two_at 2 bytes are (omega arith)) in
    take-next bytes _ _ 4 2 to (ap two_bytes whole.len ∙ two_bytes-two_at 4 bytes are (omega arith))

-- what is read is a message, and it is spelled so
pub read-spells : (kind : ControlKind) (bytes : List ℕ) (to : To) (control : Control) → AreBytes bytes → IsWhole kind bytes
    → receiver_number to ≡ two_at 2 bytes → IsReceiver to → IsReadAs kind (drop 6 bytes) control
    → IsControl (record { to = to; control = control }) × (control_bytes (record { to = to; control = control }) ≡ bytes)
unfolding control_bytes
read-spells kind bytes to control are whole to-is receiver read =
    let header : control_header (control_kind control) (receiver_number to) (length (contents_bytes control)) ≡ take 6 bytes =
    rw (read.kind_is, to-is, read.spelled) (header-read kind bytes are whole) in (
      record { sendable = record { to = receiver; contents = read.fits }; names = read.names },
      ap (λ (xs : List ℕ). xs ++ contents_bytes control) header ∙ ap (λ (xs : List ℕ). take 6 bytes ++ xs) read.spelled ∙ take-append-drop 6 bytes,
    )

-- ---- what is spelled

len-bytes : (a : Addressed) → IsControl a → two_at 4 (control_bytes a) ≡ length (contents_bytes a.control)
unfolding control_bytes two_at
len-bytes a is = two-again (length (contents_bytes a.control)) (short-contents a.control is.sendable.contents)

drop-bytes : (a : Addressed) → drop 6 (control_bytes a) ≡ contents_bytes a.control
unfolding control_bytes
drop-bytes a = refl

pub length-bytes : (a : Addressed) → length (control_bytes a) ≡ 6 + length (contents_bytes a.control)
unfolding control_bytes
length-bytes a = omega arith

-- a header and contents together
pub bytes-parts : (a : Addressed) (header : List ℕ)
    → header ≡ control_header (control_kind a.control) (receiver_number a.to) (length (contents_bytes a.control))
    → header ++ contents_bytes a.control ≡ control_bytes a
unfolding control_bytes
bytes-parts a header header-is = ap (λ (xs : List ℕ). xs ++ contents_bytes a.control) header-is

bytes-kind : (a : Addressed) → HasControlKind (control_kind a.control) (control_bytes a)
unfolding control_bytes
bytes-kind a = record { long = omega arith; version = refl; code = refl }

bytes-whole : (a : Addressed) → IsControl a → IsWhole (control_kind a.control) (control_bytes a)
bytes-whole a is = record {
  header = bytes-kind a;
  fits = ap (λ (xs : List ℕ). length_fits (control_kind a.control) (length xs)) (drop-bytes a) ∙ fits-contents a.control is.sendable.contents;
  len = ap length (drop-bytes a) ∙ sym (len-bytes a is);
}

-- a spelling has no fault
pub fault-bytes : (a : Addressed) → IsControl a → control_fault (control_bytes a) ≡ None
fault-bytes a is = fault-whole (control_kind a.control) (control_bytes a) (bytes-whole a is)

-- bytes with a fault are no spelling
pub fault-not_bytes : (a : Addressed) (bytes : List ℕ) (bad : Bad) → IsControl a → control_bytes a ≡ bytes → control_fault bytes ≡ Some bad → ⊥
fault-not_bytes a bytes bad is same fault =
    let none : control_fault bytes ≡ None = ap control_fault (sym same) ∙ fault-bytes a is in
    cc

-- ---- one message for a spelling

-- the entries that bytes spell, eight by eight
announced_of : List ℕ → List Announced
announced_of (a ∷ b ∷ c ∷ d ∷ e ∷ f ∷ g ∷ h ∷ bytes) =
    record { host = record { 0 = from_be_bytes w16 (a ∷ b ∷ []) }; time = record { 0 = from_be_bytes w64 (0 ∷ 0 ∷ c ∷ d ∷ e ∷ f ∷ g ∷ h ∷ []) } } ∷ announced_of bytes
announced_of _ = []

-- the links that bytes spell, two by two
links_of : List ℕ → List LinkId
links_of (a ∷ b ∷ bytes) = record { 0 = from_be_bytes w16 (a ∷ b ∷ []) } ∷ links_of bytes
links_of _ = []

announced-again : (list : List Announced) → All (λ e. e.time.0 < 2 ^ 48) list → All (λ e. e.host.0 < 2 ^ 16) list
    → announced_of (flat_map announced_bytes list) ≡ list
unfolding announced_of
announced-again [] times hosts = refl
announced-again (e ∷ list) times hosts =
    let time = six-again e.time.0 (All-head (λ (x : Announced). x.time.0 < 2 ^ 48) e list times) in
    let host = two-again e.host.0 (All-head (λ (x : Announced). x.host.0 < 2 ^ 16) e list hosts) in
    let rest = announced-again list (All-tail (λ (x : Announced). x.time.0 < 2 ^ 48) e list times) (All-tail (λ (x : Announced). x.host.0 < 2 ^ 16) e list hosts) in
    rw (time, host, rest) refl

links-again : (links : List LinkId) → All (λ l. l.0 < 2 ^ 16) links → links_of (flat_map link_bytes links) ≡ links
unfolding links_of
links-again [] each = refl
links-again (l ∷ links) each =
    let link = two-again l.0 (All-head (λ (x : LinkId). x.0 < 2 ^ 16) l links each) in
    let rest = links-again links (All-tail (λ (x : LinkId). x.0 < 2 ^ 16) l links each) in
    rw (link, rest) refl

-- the message of a kind that contents spell
control_of : ControlKind → List ℕ → Control
control_of Down contents = message.Down (record { 0 = two_at 0 contents }) (record { 0 = six_at 2 contents })
control_of Freeze contents = message.Freeze (record { 0 = two_at 0 contents })
control_of Notice contents = message.Notice (announced_of contents)
control_of Done contents = message.Done (record { 0 = two_at 0 contents }) (two_at 2 contents)
control_of DropLinks contents = message.DropLinks (links_of contents)
control_of Gone contents = message.Gone (record { 0 = two_at 0 contents }) (two_at 2 contents)

contents-again : (c : Control) → HasContents c → HasTwoByteNames c → control_of (control_kind c) (contents_bytes c) ≡ c
unfolding control_of two_at six_at
contents-again (message.Down link value) has names = rw (two-again link.0 names, six-again value.0 has) refl
contents-again (message.Freeze link) has names = rw (two-again link.0 names) refl
contents-again (message.Notice list) has names = ap message.Notice (announced-again list has.2 names)
contents-again (message.Done host count) has names = rw (two-again host.0 names.0, two-again count names.1) refl
contents-again (message.DropLinks links) has names = ap message.DropLinks (links-again links names)
contents-again (message.Gone node count) has names = rw (two-again node.0 names.0, two-again count names.1) refl

receiver-below : (to : To) → IsReceiver to → receiver_number to < 2 ^ 16
receiver-below Controller is = omega arith
receiver-below (Node node) is = omega arith

receiver-same : (a b : To) → IsReceiver a → IsReceiver b → receiver_number a ≡ receiver_number b → a ≡ b
receiver-same Controller Controller a-is b-is same = refl
receiver-same Controller (Node node) a-is b-is same = absurd (omega arith)
receiver-same (Node node) Controller a-is b-is same = absurd (omega arith)
receiver-same (Node node) (Node other) a-is b-is same = ap (λ (n : ℕ). Node (record { 0 = n })) same

to-bytes : (a : Addressed) → IsControl a → two_at 2 (control_bytes a) ≡ receiver_number a.to
unfolding control_bytes two_at
to-bytes a is = two-again (receiver_number a.to) (receiver-below a.to is.sendable.to)

kind-same : (a b : Addressed) → control_bytes a ≡ control_bytes b → control_kind a.control ≡ control_kind b.control
kind-same a b same =
    let kind_at : ℕ → Option ControlKind = λ n. find (λ k. eqb (control_code k) n) control_kinds in
    let found : Some (control_kind a.control) ≡ Some (control_kind b.control) =
    sym (kind-at_code (control_kind a.control)) ∙ ap kind_at (sym (bytes-kind a).code)
    ∙ ap (λ (xs : List ℕ). kind_at (slice_index xs 1)) same
    ∙ ap kind_at (bytes-kind b).code ∙ kind-at_code (control_kind b.control) in
    cc

-- a spelling is that of one message
pub bytes-same : (a b : Addressed) → IsControl a → IsControl b → control_bytes a ≡ control_bytes b → a ≡ b
bytes-same a b a-is b-is same =
    let to : a.to ≡ b.to = receiver-same a.to b.to a-is.sendable.to b-is.sendable.to (sym (to-bytes a a-is) ∙ ap (two_at 2) same ∙ to-bytes b b-is) in
    let contents : contents_bytes a.control ≡ contents_bytes b.control = sym (drop-bytes a) ∙ ap (drop 6) same ∙ drop-bytes b in
    let control : a.control ≡ b.control =
    sym (contents-again a.control a-is.sendable.contents a-is.names)
    ∙ ap (λ (kind : ControlKind). control_of kind (contents_bytes a.control)) (kind-same a b same)
    ∙ ap (control_of (control_kind b.control)) contents ∙ contents-again b.control b-is.sendable.contents b-is.names in
    let make : To → Control → Addressed = λ t c. record { to = t; control = c } in
    ap (λ (t : To). make t a.control) to ∙ ap (make b.to) control

-- ---- bytes without a fault

some-same : (a b : ControlKind) → some_kind a ≡ some_kind b → a ≡ b
some-same a b same = cc

-- the kind that is found by a code has this code
code-found : (code : ℕ) (kind : ControlKind) (kinds : List ControlKind) → find (λ k. eqb (control_code k) code) kinds ≡ Some kind → code ≡ control_code kind
code-found code kind [] found = absurd cc
code-found code kind (k ∷ kinds) found =
    elim (cases_Bool (eqb (control_code k) code)) [
      | inl here ↦ sym (eqb-true _ _ here) ∙ ap control_code (some-same k kind (rw here at found))
      | inr behind ↦ code-found code kind kinds (rw behind at found)
    ]

-- each number is that of a receiver
receiver-of : (n : ℕ) → n < 2 ^ 16 → (to : To) × IsReceiver to × (receiver_number to ≡ n)
receiver-of n lt =
    elim (cases_lt n 65535) [
      | inl below ↦ (Node (record { 0 = n }), below, refl)
      | inr last ↦ (Controller, tt, omega arith)
    ]

-- entries that are all of the bytes
record AllAnnounced (list : List Announced) (bytes : List ℕ) : Type 0 where
  spelled : flat_map announced_bytes list ≡ bytes
  times : All (λ e. e.time.0 < 2 ^ 48) list
  hosts : All (λ e. e.host.0 < 2 ^ 16) list

announced-all : (bytes : List ℕ) → AreBytes bytes → length bytes % 8 ≡ 0 → AllAnnounced (announced_of bytes) bytes
unfolding announced_of two_at six_at
announced-all [] are even = record { spelled = refl; times = All-nil (λ (e : Announced). e.time.0 < 2 ^ 48); hosts = All-nil (λ (e : Announced). e.host.0 < 2 ^ 16) }
announced-all (a ∷ []) are even = absurd (omega arith)
announced-all (a ∷ b ∷ []) are even = absurd (omega arith)
announced-all (a ∷ b ∷ c ∷ []) are even = absurd (omega arith)
announced-all (a ∷ b ∷ c ∷ d ∷ []) are even = absurd (omega arith)
announced-all (a ∷ b ∷ c ∷ d ∷ e ∷ []) are even = absurd (omega arith)
announced-all (a ∷ b ∷ c ∷ d ∷ e ∷ f ∷ []) are even = absurd (omega arith)
announced-all (a ∷ b ∷ c ∷ d ∷ e ∷ f ∷ g ∷ []) are even = absurd (omega arith)
announced-all (a ∷ b ∷ c ∷ d ∷ e ∷ f ∷ g ∷ h ∷ bytes) are even =
    let entry = a ∷ b ∷ c ∷ d ∷ e ∷ f ∷ g ∷ h ∷ [] in
    let part : AreBytes entry = AreBytes-take 8 (a ∷ b ∷ c ∷ d ∷ e ∷ f ∷ g ∷ h ∷ bytes) are in
    let rest = announced-all bytes (AreBytes-drop 8 (a ∷ b ∷ c ∷ d ∷ e ∷ f ∷ g ∷ h ∷ bytes) are) (omega arith) in
    let item : two_bytes (two_at 0 entry) ++ six_bytes (six_at 2 entry) ≡ entry = timed-read entry part refl in
    record {
      spelled = ap (λ (xs : List ℕ). xs ++ flat_map announced_bytes (announced_of bytes)) item ∙ ap (λ (xs : List ℕ). entry ++ xs) rest.spelled;
      times = All-cons (λ (x : Announced). x.time.0 < 2 ^ 48) _ (announced_of bytes) (six_at-below 2 entry part) rest.times;
      hosts = All-cons (λ (x : Announced). x.host.0 < 2 ^ 16) _ (announced_of bytes) (two_at-below 0 entry part) rest.hosts;
    }

-- links that are all of the bytes
record AllLinks (links : List LinkId) (bytes : List ℕ) : Type 0 where
  spelled : flat_map link_bytes links ≡ bytes
  names : All (λ l. l.0 < 2 ^ 16) links

links-all : (bytes : List ℕ) → AreBytes bytes → length bytes % 2 ≡ 0 → AllLinks (links_of bytes) bytes
unfolding links_of two_at
links-all [] are even = record { spelled = refl; names = All-nil (λ (l : LinkId). l.0 < 2 ^ 16) }
links-all (a ∷ []) are even = absurd (omega arith)
links-all (a ∷ b ∷ bytes) are even =
    let entry = a ∷ b ∷ [] in
    let part : AreBytes entry = AreBytes-take 2 (a ∷ b ∷ bytes) are in
    let rest = links-all bytes (AreBytes-drop 2 (a ∷ b ∷ bytes) are) (omega arith) in
    let item : two_bytes (two_at 0 entry) ≡ entry = one-read entry part refl in
    record {
      spelled = ap (λ (xs : List ℕ). xs ++ flat_map link_bytes (links_of bytes)) item ∙ ap (λ (xs : List ℕ). entry ++ xs) rest.spelled;
      names = All-cons (λ (l : LinkId). l.0 < 2 ^ 16) _ (links_of bytes) (two_at-below 0 entry part) rest.names;
    }

-- contents of a length of their kind are those of a message
contents-all : (kind : ControlKind) (contents : List ℕ) → AreBytes contents → length_fits kind (length contents) ≡ true → IsReadAs kind contents (control_of kind contents)
unfolding control_of
contents-all Down contents are fit = read-down contents _ _ are fit refl refl
contents-all Freeze contents are fit = read-freeze contents _ are fit refl
contents-all Notice contents are fit =
    let sizes = and_parts ((length contents % 8 == 0) && leb 8 (length contents)) (leb (length contents) 512) fit in
    let even : length contents % 8 ≡ 0 = eqb-true _ _ (and_parts (length contents % 8 == 0) (leb 8 (length contents)) sizes.0).0 in
    let whole = announced-all contents are even in
    read-notice contents (announced_of contents) fit whole.spelled (whole.times, whole.hosts)
contents-all Done contents are fit = read-done contents _ _ are fit refl refl
contents-all DropLinks contents are fit =
    let sizes = and_parts ((length contents % 2 == 0) && leb 2 (length contents)) (leb (length contents) 2176) fit in
    let even : length contents % 2 ≡ 0 = eqb-true _ _ (and_parts (length contents % 2 == 0) (leb 2 (length contents)) sizes.0).0 in
    let whole = links-all contents are even in
    read-drop_links contents (links_of contents) fit whole.spelled whole.names
contents-all Gone contents are fit = read-gone contents _ _ are fit refl refl

abbrev Spelled : List ℕ → Type 0
Spelled bytes = (a : Addressed) × IsControl a × (control_bytes a ≡ bytes)

faultless_at : (found : Option ControlKind) (bytes : List ℕ) → AreBytes bytes → 6 ≤ length bytes → slice_index bytes 0 ≡ 1
    → find (λ k. eqb (control_code k) (slice_index bytes 1)) control_kinds ≡ found → fault_at_control_kind found bytes ≡ None → Spelled bytes
faultless_at None bytes are long version found none = absurd cc
faultless_at (Some kind) bytes are long version found none =
    let field = guard_none (not (length_fits kind (two_at 4 bytes))) Field _ none in
    let total = guard_none (not (eqb (length bytes) (6 + two_at 4 bytes))) Length None field.1 in
    let same : length bytes ≡ 6 + two_at 4 bytes = eqb-true _ _ (not-false _ total.0) in
    let len : length (drop 6 bytes) ≡ two_at 4 bytes = omega (arith, length-drop 6 bytes) in
    let fits = ap (length_fits kind) len ∙ not-false _ field.0 in
    let header : HasControlKind kind bytes = record { long = long; version = version; code = code-found _ kind control_kinds found } in
    let to = receiver-of (two_at 2 bytes) (two_at-below 2 bytes are) in
    let spells = read-spells kind bytes to.0 (control_of kind (drop 6 bytes)) are (record { header = header; fits = fits; len = len }) to.2 to.1
    (contents-all kind (drop 6 bytes) (AreBytes-drop 6 bytes are) fits) in
    (record { to = to.0; control = control_of kind (drop 6 bytes) }, spells.0, spells.1)

-- bytes without a fault are the spelling of a message
pub faultless : (bytes : List ℕ) → AreBytes bytes → control_fault bytes ≡ None → Spelled bytes
unfolding control_fault
faultless bytes are none =
    let behind = fault_at_control_kind (find (λ k. eqb (control_code k) (slice_index bytes 1)) control_kinds) bytes in
    let short = guard_none (ltb (length bytes) 6) Short (cond (not (eqb (slice_index bytes 0) 1)) (Some Version) behind) none in
    let version = guard_none (not (eqb (slice_index bytes 0) 1)) Version behind short.1 in
    faultless_at _ bytes are (ltb-false _ _ short.0) (eqb-true _ _ (not-false _ version.0)) refl version.1
