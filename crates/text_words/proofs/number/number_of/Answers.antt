use Rattle.std.proofs.Common.{◌≡◌, None, sym, ap, ◌∙◌, true}
use Rattle.std.specs.Result.{result_ok}
use Rattle.text_words.specs.Numbers.{begins_number}
use Rattle.text_words.proofs.NumberLemmas.{begins_decimal, is_decimal, text_is, no_decimal}
use Rattle.text_words.proofs.number.number_of.Goals as goal

pub returns-then-not-begins_number : goal.returns-then-not-begins_number
returns-then-not-begins_number c n lt spelled =
    let begins = begins_decimal n lt in
    let told = c.begins_number.ensures ∙ ap begins_number spelled in
    cc

pub returns-in_err-ok : goal.returns-in_err-ok
returns-in_err-ok c =
    let none : result_ok c.from_utf8.result ≡ None = sym c.ok.ensures.value ∙ c.in_err-ok.was in
    rw c.from_residual.ensures (no_decimal c.args.digits.now c.from_utf8.result _ _ none c.from_utf8.ensures.cases)

pub returns : goal.returns
returns c =
    let text = text_is c.args.digits.now c.from_utf8.result c.in_ok-ok.field-0 _ (sym c.ok.ensures.value ∙ c.in_ok-ok.was) c.from_utf8.ensures.cases in
    let begins : begins_number c.args.digits.now ≡ true = cc in
    rw (c.ok-2.ensures.value) (is_decimal c.args.digits.now c.parse.result begins (rw (← text) at c.parse.ensures.value.0))
