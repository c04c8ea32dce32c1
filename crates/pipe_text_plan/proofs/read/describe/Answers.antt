use Rattle.std.proofs.Common.{◌≡◌, ◌+◌, List, ℕ, Bor, None, Result, Ok, Err, map, length, ap, sym, subst, ◌∙◌, arith, length-append}
use Rattle.std.specs.Result.{IfOk}
use Rattle.std.proofs.lemmas.List.{length-map}
use Rattle.pipe_topo.specs.declared.plan.CableEnd.{CableEnd}
use Rattle.pipe_topo.specs.Plan.{HasEnds}
use Rattle.pipe_text_plan.specs.declared.fault.PlanFault.{PlanFault}
use Rattle.pipe_text_plan.specs.Cable.{cables_of}
use Rattle.pipe_text_plan.specs.Described.{Described, all_names, built, crowded, described}
use Rattle.pipe_text_plan.specs.Input.{IsInput}
use Rattle.pipe_text_plan.specs.Numbering.{numbered}
use Rattle.pipe_text_plan.specs.Refused.{RefusesLike}
use Rattle.pipe_text_plan.specs.Switch.{switches_of}
use Rattle.pipe_text_plan.specs.Views.{document_view}
use Rattle.pipe_text_plan.proofs.DescribeLaws.{switch_fault, name_fault, cable_fault, described_is, plan_with, same_plan, levels_seen, names_size, switches_size, cables_size, cables_have_ends}
use Rattle.pipe_text_plan.proofs.read.describe.Goals as goal

abbrev now_of : Bor (List ℕ) → List ℕ
now_of text = text.now

abbrev seen : Bor (List ℕ) × ℕ → List ℕ × ℕ
seen switch = (switch.0.now, switch.1)

-- what is read of the texts, from what the calls say of the parts that they are given
good_is : {given texts : List (Bor (List ℕ))} (switches : List (Bor (List ℕ) × ℕ)) → given ≡ texts → switches_of (map now_of given) ≡ Ok (map seen switches)
    → switches_of (map now_of texts) ≡ Ok (map seen switches)
good_is switches same is = sym (ap (λ (ts : List (Bor (List ℕ))). switches_of (map now_of ts)) same) ∙ is

all_is : {given all hosts texts : List (Bor (List ℕ))} {seen_by switches : List (Bor (List ℕ) × ℕ)} → given ≡ all → map now_of all ≡ all_names (map now_of hosts) (map seen seen_by)
    → hosts ≡ texts → seen_by ≡ switches → map now_of given ≡ all_names (map now_of texts) (map seen switches)
all_is same is hosts_are switches_are = ap (map now_of) same ∙ is ∙ (λ i. all_names (map now_of (hosts_are i)) (map seen (switches_are i)))

count_is : {n m : ℕ} {hosts texts : List (Bor (List ℕ))} → n ≡ m → length hosts ≡ m → hosts ≡ texts → n ≡ length (map now_of texts)
count_is {n} {m} {hosts} {texts} is size same = is ∙ sym size ∙ ap length same ∙ sym (length-map texts now_of)

levels_are : {levels : List ℕ} {given switches : List (Bor (List ℕ) × ℕ)} → levels ≡ map (λ (switch : Bor (List ℕ) × ℕ). switch.1) given → given ≡ switches
    → levels ≡ map (λ (switch : List ℕ × ℕ). switch.1) (map seen switches)
levels_are {levels} {given} {switches} is same = is ∙ ap (map (λ (switch : Bor (List ℕ) × ℕ). switch.1)) same ∙ sym (levels_seen switches)

cables_are : (names : List (List ℕ)) {n m : ℕ} {given texts : List (Bor (List ℕ))} {read : Result (List (CableEnd × CableEnd)) PlanFault} → n ≡ m → given ≡ texts → cables_of n names (map now_of given) ≡ read
    → cables_of m names (map now_of texts) ≡ read
cables_are names hosts same is = sym (λ i. cables_of (hosts i) names (map now_of (same i))) ∙ is

pub numbered-requires : goal.numbered-requires
numbered-requires c =
    let few = c.crowded.ensures.few c.in_default.is in
    let few_hosts = few.few_hosts in
    let few_switches = few.few_switches in
    let good = good_is c.in-Ok.switches.items c.deref.ensures.value c.in-Ok.ensures.ok in
    let all = all_is c.deref-4.ensures.value c.in_ok-all.ensures c.deref-2.ensures.value c.deref-3.ensures.value in
    let size : length (map now_of c.deref-4.result.now) ≡ length (document_view c.args.texts.now).hosts + length (map seen c.in-Ok.switches.items) =
    ap length all ∙ length-append (document_view c.args.texts.now).hosts (map (λ (switch : List ℕ × ℕ). switch.0) (map seen c.in-Ok.switches.items))
    ∙ ap (λ n. length (document_view c.args.texts.now).hosts + n) (simp length-map) in
    let mapped : length (map now_of c.deref-4.result.now) ≡ length c.deref-4.result.now = simp length-map in
    omega (arith, size, mapped, switches_size (document_view c.args.texts.now).switches (map seen c.in-Ok.switches.items) good, few_hosts, few_switches)

pub returns-in-Err-clause-fault : goal.returns-in-Err-clause-fault
returns-in-Err-clause-fault c = λ fault is.
    let room = sym c.crowded.ensures.value ∙ c.in_default.is in
    let bad = sym (ap (λ (texts : List (Bor (List ℕ))). switches_of (map now_of texts)) c.deref.ensures.value) ∙ c.in-Err.ensures.fault fault is in
    switch_fault (document_view c.args.texts.now) fault room bad

pub returns-in-Err-numbered-clause-fault : goal.returns-in-Err-numbered-clause-fault
returns-in-Err-numbered-clause-fault c = λ fault is.
    let room = sym c.crowded.ensures.value ∙ c.in_default.is in
    let good = good_is c.in-Ok.switches.items c.deref.ensures.value c.in-Ok.ensures.ok in
    let all = all_is c.deref-4.ensures.value c.in_ok-all.ensures c.deref-2.ensures.value c.deref-3.ensures.value in
    name_fault (document_view c.args.texts.now) (map seen c.in-Ok.switches.items) fault room good (sym (ap numbered all) ∙ c.in-Err-numbered.ensures.fault fault is)

pub returns-in-Err-cables_of-clause-fault : goal.returns-in-Err-cables_of-clause-fault
returns-in-Err-cables_of-clause-fault c = λ fault is.
    let room = sym c.crowded.ensures.value ∙ c.in_default.is in
    let good = good_is c.in-Ok.switches.items c.deref.ensures.value c.in-Ok.ensures.ok in
    let all = all_is c.deref-4.ensures.value c.in_ok-all.ensures c.deref-2.ensures.value c.deref-3.ensures.value in
    let known = sym (ap numbered all) ∙ c.in-Ok-numbered.ensures.ok in
    let hosts = count_is c.len-hosts.ensures c.deref-2.ensures.len c.deref-2.ensures.value in
    let bad = cables_are c.in-Ok-numbered.names hosts c.deref-5.ensures.value (c.in-Err-cables_of.ensures.fault fault is) in
    cable_fault (document_view c.args.texts.now) (map seen c.in-Ok.switches.items) c.in-Ok-numbered.names fault room good known bad

pub build-requires-clause-ends : goal.build-requires-clause-ends
build-requires-clause-ends c =
    let room = sym c.crowded.ensures.value ∙ c.in_default.is in
    let good = good_is c.in-Ok.switches.items c.deref.ensures.value c.in-Ok.ensures.ok in
    let all = all_is c.deref-4.ensures.value c.in_ok-all.ensures c.deref-2.ensures.value c.deref-3.ensures.value in
    let known = sym (ap numbered all) ∙ c.in-Ok-numbered.ensures.ok in
    let hosts = count_is c.len-hosts.ensures c.deref-2.ensures.len c.deref-2.ensures.value in
    let levels = levels_are c.in_ok-levels_of.ensures c.deref-6.ensures.value in
    let counted : length c.in_ok-levels_of.field-0 ≡ length (map seen c.in-Ok.switches.items) = ap length levels ∙ simp length-map in
    let size : length c.in-Ok-numbered.names ≡ c.len-hosts.result + length c.in_ok-levels_of.field-0 =
    names_size (document_view c.args.texts.now).hosts c.in-Ok-numbered.names (map seen c.in-Ok.switches.items) known
    ∙ sym (λ i. hosts i + counted i) in
    subst (λ (cables : List (CableEnd × CableEnd)). HasEnds c.len-hosts.result (length c.in_ok-levels_of.field-0) cables) (sym c.from_vec.ensures)
    (cables_have_ends c.len-hosts.result (length c.in_ok-levels_of.field-0) c.in-Ok-numbered.names (map now_of c.deref-5.result.now) c.in-Ok-cables_of.cables.items
    size c.in-Ok-cables_of.ensures.ok)

pub build-requires-clause-countable_levels : goal.build-requires-clause-countable_levels
build-requires-clause-countable_levels c =
    let few = c.crowded.ensures.few c.in_default.is in
    let few_switches = few.few_switches in
    let room = sym c.crowded.ensures.value ∙ c.in_default.is in
    let good = good_is c.in-Ok.switches.items c.deref.ensures.value c.in-Ok.ensures.ok in
    let levels = levels_are c.in_ok-levels_of.ensures c.deref-6.ensures.value in
    let same : length c.in_ok-levels_of.field-0 ≡ length (map seen c.in-Ok.switches.items) = ap length levels ∙ simp length-map in
    omega (arith, same, switches_size (document_view c.args.texts.now).switches (map seen c.in-Ok.switches.items) good, few_switches)

pub build-requires-clause-countable_cables : goal.build-requires-clause-countable_cables
build-requires-clause-countable_cables c =
    let few = c.crowded.ensures.few c.in_default.is in
    let few_cables = few.few_cables in
    let room = sym c.crowded.ensures.value ∙ c.in_default.is in
    let good = good_is c.in-Ok.switches.items c.deref.ensures.value c.in-Ok.ensures.ok in
    let all = all_is c.deref-4.ensures.value c.in_ok-all.ensures c.deref-2.ensures.value c.deref-3.ensures.value in
    let known = sym (ap numbered all) ∙ c.in-Ok-numbered.ensures.ok in
    let hosts = count_is c.len-hosts.ensures c.deref-2.ensures.len c.deref-2.ensures.value in
    let joined = cables_are c.in-Ok-numbered.names hosts c.deref-5.ensures.value c.in-Ok-cables_of.ensures.ok in
    let same : length c.from_vec.result ≡ length c.in-Ok-cables_of.cables.items = ap length c.from_vec.ensures in
    omega (arith, same, cables_size (length (document_view c.args.texts.now).hosts) c.in-Ok-numbered.names (document_view c.args.texts.now).cables c.in-Ok-cables_of.cables.items joined, few_cables)

pub returns-clause-ok : goal.returns-clause-ok
returns-clause-ok c =
    let room = sym c.crowded.ensures.value ∙ c.in_default.is in
    let good = good_is c.in-Ok.switches.items c.deref.ensures.value c.in-Ok.ensures.ok in
    let all = all_is c.deref-4.ensures.value c.in_ok-all.ensures c.deref-2.ensures.value c.deref-3.ensures.value in
    let known = sym (ap numbered all) ∙ c.in-Ok-numbered.ensures.ok in
    let hosts = count_is c.len-hosts.ensures c.deref-2.ensures.len c.deref-2.ensures.value in
    let joined = cables_are c.in-Ok-numbered.names hosts c.deref-5.ensures.value c.in-Ok-cables_of.ensures.ok in
    let levels = levels_are c.in_ok-levels_of.ensures c.deref-6.ensures.value in
    let says : described (document_view c.args.texts.now) ≡ built c.in-Ok-numbered.names (plan_with c.len-hosts.result c.in_ok-levels_of.field-0 c.from_vec.result c.args.texts.now.patience) =
    described_is (document_view c.args.texts.now) (map seen c.in-Ok.switches.items) c.in-Ok-numbered.names c.in-Ok-cables_of.cables.items room good known joined
    ∙ ap (built c.in-Ok-numbered.names) (sym (same_plan c.len-hosts.result (length (document_view c.args.texts.now).hosts) c.in_ok-levels_of.field-0
    (map (λ (switch : List ℕ × ℕ). switch.1) (map seen c.in-Ok.switches.items)) c.from_vec.result c.in-Ok-cables_of.cables.items c.args.texts.now.patience hosts levels c.from_vec.ensures)) in
    subst (λ (described : Result Described PlanFault). IfOk c.build.result (IsInput described)) (sym says) c.build.ensures.ok

pub returns-clause-fault : goal.returns-clause-fault
returns-clause-fault c =
    let room = sym c.crowded.ensures.value ∙ c.in_default.is in
    let good = good_is c.in-Ok.switches.items c.deref.ensures.value c.in-Ok.ensures.ok in
    let all = all_is c.deref-4.ensures.value c.in_ok-all.ensures c.deref-2.ensures.value c.deref-3.ensures.value in
    let known = sym (ap numbered all) ∙ c.in-Ok-numbered.ensures.ok in
    let hosts = count_is c.len-hosts.ensures c.deref-2.ensures.len c.deref-2.ensures.value in
    let joined = cables_are c.in-Ok-numbered.names hosts c.deref-5.ensures.value c.in-Ok-cables_of.ensures.ok in
    let levels = levels_are c.in_ok-levels_of.ensures c.deref-6.ensures.value in
    let says : described (document_view c.args.texts.now) ≡ built c.in-Ok-numbered.names (plan_with c.len-hosts.result c.in_ok-levels_of.field-0 c.from_vec.result c.args.texts.now.patience) =
    described_is (document_view c.args.texts.now) (map seen c.in-Ok.switches.items) c.in-Ok-numbered.names c.in-Ok-cables_of.cables.items room good known joined
    ∙ ap (built c.in-Ok-numbered.names) (sym (same_plan c.len-hosts.result (length (document_view c.args.texts.now).hosts) c.in_ok-levels_of.field-0
    (map (λ (switch : List ℕ × ℕ). switch.1) (map seen c.in-Ok.switches.items)) c.from_vec.result c.in-Ok-cables_of.cables.items c.args.texts.now.patience hosts levels c.from_vec.ensures)) in
    subst (λ (described : Result Described PlanFault). RefusesLike c.build.result described) (sym says) c.build.ensures.fault
