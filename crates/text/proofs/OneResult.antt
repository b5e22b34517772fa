-- Each public contract leaves one result, and one content of the lent buffer. Closed by the equalities that it gives.
use mathlib.Core.Path.{sym, ◌∙◌}
use Rattle.octets.specs.Contract.{Leaves}
use Rattle.text.specs.Reading.{held_in}
use Rattle.text.proofs.octets_of.Reads as octets-of
use Rattle.text.proofs.line_feed.Reads as line-feed
use Rattle.text.proofs.line_in.Reads as line-in
use Rattle.text.proofs.put_digits.Reads as put-digits
use Rattle.text.proofs.print.Reads as print

pub one_line_feed : Leaves line-feed.Post (λ κs r e. r)
one_line_feed κs a x y e f p q = p ∙ sym q

pub one_line_in : Leaves line-in.Post (λ κs r e. r)
one_line_in κs a x y e f p q = p.0 ∙ sym q.0

pub one_line_in_buffer : Leaves line-in.Post (λ κs r e. e.1.0.now)
one_line_in_buffer κs a x y e f p q = p.1.0 ∙ sym q.1.0

pub one_put_digits : Leaves put-digits.Post (λ κs r e. r)
one_put_digits κs a x y e f p q = p.0 ∙ sym q.0

pub one_put_digits_buffer : Leaves put-digits.Post (λ κs r e. e.0.now)
one_put_digits_buffer κs a x y e f p q = p.1 ∙ sym q.1

pub one_print : Leaves print.Post (λ κs r e. r)
one_print κs a x y e f p q = p.0 ∙ sym q.0

pub one_print_buffer : Leaves print.Post (λ κs r e. e.0.now)
one_print_buffer κs a x y e f p q = p.1 ∙ sym q.1

pub one_octets_of : Leaves octets-of.Post (λ κs r e. held_in r)
one_octets_of κs a x y e f p q = p ∙ sym q
