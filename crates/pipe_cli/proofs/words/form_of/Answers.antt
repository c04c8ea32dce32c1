use Rattle.std.proofs.Common.{◌≡◌, List, String, Global, length, get_or, arith, subst}
use Rattle.pipe_cli.proofs.FormLaws.{form_alone, form_of_two}
use Rattle.pipe_cli.proofs.words.form_of.Goals as goal

pub returns-in-len1-clause-some : goal.returns-in-len1-clause-some
returns-in-len1-clause-some c =
    let one : length c.as_slice.result.now ≡ 1 = omega arith in
    form_alone c.args.words.now c.verb-item.result c.as_str.result.now c.alone.result
    (subst (λ (texts : List (String Global)). length texts ≡ 1) c.as_slice.ensures one)
    (subst (λ (texts : List (String Global)). c.verb-item.result ≡ get_or texts 0 c.verb-item.result) c.as_slice.ensures c.verb-item.is)
    c.as_str.ensures.value c.alone.ensures

pub returns-in-len2-clause-some : goal.returns-in-len2-clause-some
returns-in-len2-clause-some c =
    let verb : String Global = c.verb-item-then-this-lt3.result in
    let option : String Global = c.option-item.result in
    let two : length c.as_slice.result.now ≡ 2 = omega arith in
    form_of_two c.args.words.now verb option c.as_str-in-len2.result.now c.as_str-in-len2-2.result.now c.with_option.result
    (subst (λ (texts : List (String Global)). length texts ≡ 2) c.as_slice.ensures two)
    (subst (λ (texts : List (String Global)). verb ≡ get_or texts 0 verb) c.as_slice.ensures c.verb-item-then-this-lt3.is)
    (subst (λ (texts : List (String Global)). option ≡ get_or texts 1 option) c.as_slice.ensures c.option-item.is)
    c.as_str-in-len2.ensures.value c.as_str-in-len2-2.ensures.value c.with_option.ensures
