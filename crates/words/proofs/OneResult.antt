-- Each public contract leaves one result, and one content of the lent buffer. Closed by the equalities that it gives.
use mathlib.Core.Path.{◌≡◌, ap, sym, ◌∙◌}
use mathlib.Core.Bool.{Bool}
use Rattle.octets.specs.Contract.{Leaves}
use Rattle.text.specs.Hearing.{Standing}
use Rattle.text.specs.declared.hearing.Fed.{Fed}
use Rattle.text.specs.declared.hearing.Reader.{Reader}
use Rattle.words.specs.Feeding.{standing}
use Rattle.words.specs.declared.Explainer.{Explainer}
use Rattle.words.proofs.fresh.Reads as fresh
use Rattle.words.proofs.feed.Reads as feed
use Rattle.words.proofs.finish.Reads as finish

pub one_fresh : Leaves fresh.Post (λ κs r e. r)
one_fresh κs a x y e f p q = p ∙ sym q

-- a reader is what it stands for
same_reader : (r t : Reader Explainer) → standing r ≡ standing t → r ≡ t
same_reader r t e = ap (λ (s : Standing Bool). record { hearer = record { indented = s.state }; passing = s.passing }) e

-- an answer is its three parts
same_fed : (x y : Fed (Reader Explainer)) → x.state ≡ y.state → x.taken ≡ y.taken → x.written ≡ y.written → x ≡ y
same_fed x y a b c = rw (a, b, c)

pub one_feed : Leaves feed.Post (λ κs r e. r)
one_feed κs a x y e f p q = same_fed x y (same_reader x.state y.state (p.reader ∙ sym q.reader)) (p.taken ∙ sym q.taken) (p.put.place ∙ sym q.put.place)

pub one_feed_buffer : Leaves feed.Post (λ κs r e. e.1.1.0.now)
one_feed_buffer κs a x y e f p q = p.put.held ∙ sym q.put.held

pub one_finish : Leaves finish.Post (λ κs r e. r)
one_finish κs a x y e f p q = p.0.place ∙ sym q.0.place

pub one_finish_buffer : Leaves finish.Post (λ κs r e. e.1.1.0.now)
one_finish_buffer κs a x y e f p q = p.0.held ∙ sym q.0.held
