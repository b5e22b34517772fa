-- Each public contract leaves one result, one image, and one content of the lent buffer. Closed by the equalities that it gives.
use mathlib.Core.Path.{◌≡◌, ap, sym, ◌∙◌}
use Rattle.octets.specs.Contract.{Leaves}
use Rattle.session.specs.Feeding.{Standing}
use Rattle.session.specs.declared.Phase.{Phase}
use Rattle.text.specs.declared.hearing.Fed.{Fed}
use Rattle.text.specs.declared.hearing.Reader.{Reader}
use Rattle.session.proofs.fresh.Reads as fresh
use Rattle.session.proofs.feed.Reads as feed
use Rattle.session.proofs.finish.Reads as finish

pub one_fresh : Leaves fresh.Post (λ κs r e. r)
one_fresh κs a x y e f p q = p ∙ sym q

-- an answer is its parts
same_fed : (x y : Fed (Reader Phase)) → x.state.hearer ≡ y.state.hearer → x.state.passing ≡ y.state.passing → x.taken ≡ y.taken → x.written ≡ y.written → x ≡ y
same_fed x y a b c d = rw (a, b, c, d)

pub one_feed : Leaves feed.Post (λ κs r e. r)
one_feed κs a x y e f p q =
    let s = p.fed.reader ∙ sym q.fed.reader in
    same_fed x y (ap (λ (z : Standing). z.state.phase) s) (ap (λ (z : Standing). z.passing) s) (p.fed.taken ∙ sym q.fed.taken) (p.fed.put.place ∙ sym q.fed.put.place)

pub one_feed_image : Leaves feed.Post (λ κs r e. e.1.0.now)
one_feed_image κs a x y e f p q = p.image ∙ sym q.image

pub one_feed_buffer : Leaves feed.Post (λ κs r e. e.1.1.1.0.now)
one_feed_buffer κs a x y e f p q = p.fed.put.held ∙ sym q.fed.put.held

pub one_finish : Leaves finish.Post (λ κs r e. r)
one_finish κs a x y e f p q = p.0.place ∙ sym q.0.place

pub one_finish_buffer : Leaves finish.Post (λ κs r e. e.1.1.1.0.now)
one_finish_buffer κs a x y e f p q = p.0.held ∙ sym q.0.held
