-- `text::print` meets its contract. Closed by PrintLaws: the digits and the line feed after them, or nothing.
use mathlib.Core.Path.{sym, ◌∙◌}
use Rattle.text.proofs.PrintLaws.{print_none, print_all}
use Rattle.text.proofs.print.Goals as goal

pub returns-then-fits : goal.returns-then-fits
returns-then-fits c =
    let e = c.put_digits-end.ensures in
    print_all c.args.out.now c.args.line.now c.args.at _ _ (sym c.if-fits.true ∙ c.fits.ensures) e.0 e.1

pub returns : goal.returns
returns c = print_none c.args.out.now c.args.line.now c.args.at (sym c.if-fits.false ∙ c.fits.ensures)
