-- `frame::reader::extensions` meets its contract. The invariant: what is left to read gives what the whole gives (ReaderLaws: `extensions_more`, `extensions_done`, `extensions_bad`).
use mathlib.Core.Path.{sym, ◌∙◌}
use Rattle.frame.proofs.ReaderLaws.{extension_after, extensions_done, extensions_more, extensions_bad}
use native.Mathlib.Omega.{arith}
use Rattle.std.proofs.lemmas.Result.{err_from_is_err_and}
use Rattle.frame.proofs.reader.extensions.Goals as goal

pub returns : goal.returns
returns c = sym (extensions_done _ _ _ _ c.loop-at-test.false) ∙ c.loop-at.invariant.1

pub returns-in_err-next : goal.returns-in_err-next
returns-in_err-next c =
    let l = c.loop-at in
    let p = err_from_is_err_and c.from_residual.result c.from_residual.ensures.1 in
    rw (p.1, p.2) (sym (extensions_bad _ _ _ c.loop-at-test.true l.invariant.0 _ (sym c.extension.ensures ∙ c.in_err-next.was)) ∙ l.invariant.1)

pub loop-at-smaller : goal.loop-at-smaller
loop-at-smaller c =
    let h = extension_after _ _ _ _ (sym c.extension.ensures ∙ c.in_ok-next.was) in
    omega arith

pub loop-at-preserved : goal.loop-at-preserved
loop-at-preserved c =
    let l = c.loop-at in
    let e = sym c.extension.ensures ∙ c.in_ok-next.was in
    let h = extension_after _ _ _ _ e in
    (omega arith, sym (extensions_more _ _ _ c.loop-at-test.true l.invariant.0 _ _ e) ∙ l.invariant.1)
