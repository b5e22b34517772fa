-- `phrases::spelling::Page::shown` meets its contract. Closed by SpellLaws, one law for each way out.
use mathlib.Core.Path.{sym, ◌∙◌}
use native.Mathlib.Omega.{arith}
use Rattle.text.proofs.PrintLaws.{digits_long}
use Rattle.phrases.proofs.PageLaws.{then, within, writes_as, written}
use Rattle.phrases.proofs.SpellLaws.{shown_text, shown_digits, digits_put}
use Rattle.phrases.proofs.spelling.Page.shown.Goals as goal

pub returns-then-all_printable : goal.returns-then-all_printable
returns-then-all_printable c =
    writes_as (shown_text c.args.s.now (sym c.all_printable.ensures ∙ c.if-all_printable.true))
    (within (then (then c.say.ensures c.say-then-all_printable.ensures) c.say-then-all_printable-2.ensures) (omega arith))

pub returns-else-all_printable : goal.returns-else-all_printable
returns-else-all_printable c =
    let d = c.put_digits-self.ensures in
    let p = digits_put c.args.s.now d.0 d.1 in
    writes_as (shown_digits c.args.s.now (sym c.all_printable.ensures ∙ c.if-all_printable.false))
    (within (then c.say-else-all_printable.ensures (written p)) (omega (arith, digits_long c.args.s.now)))
