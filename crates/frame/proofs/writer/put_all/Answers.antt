-- `frame::writer::put_all` meets its contract. Closed by Puts' `grow`, a field at a time, and WriterLaws' `all_put`.
use mathlib.Core.List.{[], ◌∷◌}
use mathlib.Core.Path.{refl}
use Rattle.octets.specs.Put.{Put}
use Rattle.octets.proofs.Puts.{grow}
use Rattle.frame.proofs.WriterLaws.{all_put}
use Rattle.frame.proofs.writer.put_all.Goals as goal

pub returns : goal.returns
returns c =
    let g₀ : Put c.args.out.now 0 (c.flags.result ∷ c.args.parts.confirmation ∷ []) c.put_few.new.out 2 = record { held = c.put_few.ensures; place = refl } in
    let g₁ = grow g₀ c.put_type-at1.ensures.put in
    let g₂ = grow g₁ c.put_number.ensures.put in
    let g₃ = grow g₂ c.put_number-2.ensures.put in
    let g₄ = grow g₃ c.put_sender.ensures.put in
    let g₅ = grow g₄ c.put_data.ensures.put in
    all_put c.args.parts c.args.out.now _ _ _ c.flags.ensures g₅
