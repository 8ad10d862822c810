-- The digits' quotient is exact, or an odd number stands beside it.
use Rattle.std.proofs.Common.{◌∙◌, arith, le_trans, lit≤}
use Rattle.soft.proofs.Quotients.{lead_is, divisor_pos, divided_is, whole_small, exact_word, beside_word, zero_quotient}
use Rattle.soft.proofs.div.quotient.Goals as goal

pub returns-then-digits-eq0 : goal.returns-then-digits-eq0
returns-then-digits-eq0 c =
    c.sign_bit.ensures ∙ zero_quotient c.args.a.word c.args.b.word _ _ c.digits-digits.ensures.value c.if-digits-eq0.true c.signs_differ-sign.ensures c.args.a.finite c.args.b.finite c.requires

pub overflow_sub-free : goal.overflow_sub-free
overflow_sub-free c = le_trans (lit≤ tt) (lead_is _ c.if-digits-eq0.false c.digits-digits.ensures.few).some

pub overflow_sub-at-2 : goal.overflow_sub-at-2
overflow_sub-at-2 c =
    let f = (lead_is _ c.if-digits-eq0.false c.digits-digits.ensures.few).few in
    omega (arith, f)

pub divided-whole-requires-clause-some : goal.divided-whole-requires-clause-some
divided-whole-requires-clause-some c = divisor_pos c.args.a.word c.args.b.word _ _ _ _ c.digits-digits.ensures.value c.digits-by.ensures.value c.places.ensures.value c.places-2.ensures.value c.requires

pub overflow_mul-whole-then-whole-by : goal.overflow_mul-whole-then-whole-by
overflow_mul-whole-then-whole-by c =
    let h = whole_small c.args.a.word c.args.b.word _ _ _ _ c.digits-digits.ensures.value c.digits-by.ensures.value c.places.ensures.value c.places-2.ensures.value c.if-digits-eq0.false
    (divisor_pos c.args.a.word c.args.b.word _ _ _ _ c.digits-digits.ensures.value c.digits-by.ensures.value c.places.ensures.value c.places-2.ensures.value c.requires) _ c.divided-whole.ensures in
    record { fits = omega (arith, h) }

pub rounded-requires : goal.rounded-requires
rounded-requires c =
    let h = whole_small c.args.a.word c.args.b.word _ _ _ _ c.digits-digits.ensures.value c.digits-by.ensures.value c.places.ensures.value c.places-2.ensures.value c.if-digits-eq0.false
    (divisor_pos c.args.a.word c.args.b.word _ _ _ _ c.digits-digits.ensures.value c.digits-by.ensures.value c.places.ensures.value c.places-2.ensures.value c.requires) _ c.divided-whole.ensures in
    let f = (lead_is _ c.if-digits-eq0.false c.digits-digits.ensures.few).few in
    record { few = omega (arith, h); low = omega (arith, f); high = omega (arith, f) }

pub returns-then-whole-by : goal.returns-then-whole-by
returns-then-whole-by c =
    let y = divisor_pos c.args.a.word c.args.b.word _ _ _ _ c.digits-digits.ensures.value c.digits-by.ensures.value c.places.ensures.value c.places-2.ensures.value c.requires in
    c.rounded.ensures
    ∙ exact_word c.args.a.word c.args.b.word _ _ _ _ c.digits-digits.ensures.value c.digits-by.ensures.value c.places.ensures.value c.places-2.ensures.value c.if-digits-eq0.false y _ c.signs_differ-sign.ensures c.args.a.finite c.args.b.finite c.requires _
    (divided_is c.args.a.word c.args.b.word _ _ _ _ c.digits-digits.ensures.value c.digits-by.ensures.value c.places.ensures.value c.places-2.ensures.value c.if-digits-eq0.false y _ c.divided-whole.ensures) c.if-whole-by.true

pub overflow_mul-whole-else-whole-by : goal.overflow_mul-whole-else-whole-by
overflow_mul-whole-else-whole-by c =
    let h = whole_small c.args.a.word c.args.b.word _ _ _ _ c.digits-digits.ensures.value c.digits-by.ensures.value c.places.ensures.value c.places-2.ensures.value c.if-digits-eq0.false
    (divisor_pos c.args.a.word c.args.b.word _ _ _ _ c.digits-digits.ensures.value c.digits-by.ensures.value c.places.ensures.value c.places-2.ensures.value c.requires) _ c.divided-whole.ensures in
    record { fits = omega (arith, h) }

pub overflow_add-whole : goal.overflow_add-whole
overflow_add-whole c =
    let h = whole_small c.args.a.word c.args.b.word _ _ _ _ c.digits-digits.ensures.value c.digits-by.ensures.value c.places.ensures.value c.places-2.ensures.value c.if-digits-eq0.false
    (divisor_pos c.args.a.word c.args.b.word _ _ _ _ c.digits-digits.ensures.value c.digits-by.ensures.value c.places.ensures.value c.places-2.ensures.value c.requires) _ c.divided-whole.ensures in
    record { fits = omega (arith, h) }

pub rounded-requires-else-whole-by : goal.rounded-requires-else-whole-by
rounded-requires-else-whole-by c =
    let h = whole_small c.args.a.word c.args.b.word _ _ _ _ c.digits-digits.ensures.value c.digits-by.ensures.value c.places.ensures.value c.places-2.ensures.value c.if-digits-eq0.false
    (divisor_pos c.args.a.word c.args.b.word _ _ _ _ c.digits-digits.ensures.value c.digits-by.ensures.value c.places.ensures.value c.places-2.ensures.value c.requires) _ c.divided-whole.ensures in
    let f = (lead_is _ c.if-digits-eq0.false c.digits-digits.ensures.few).few in
    record { few = omega (arith, h); low = omega (arith, f); high = omega (arith, f) }

pub returns-else-whole-by : goal.returns-else-whole-by
returns-else-whole-by c =
    let y = divisor_pos c.args.a.word c.args.b.word _ _ _ _ c.digits-digits.ensures.value c.digits-by.ensures.value c.places.ensures.value c.places-2.ensures.value c.requires in
    c.rounded-else-whole-by.ensures
    ∙ beside_word c.args.a.word c.args.b.word _ _ _ _ c.digits-digits.ensures.value c.digits-by.ensures.value c.places.ensures.value c.places-2.ensures.value c.if-digits-eq0.false y _ c.signs_differ-sign.ensures c.args.a.finite c.args.b.finite c.requires _
    (divided_is c.args.a.word c.args.b.word _ _ _ _ c.digits-digits.ensures.value c.digits-by.ensures.value c.places.ensures.value c.places-2.ensures.value c.if-digits-eq0.false y _ c.divided-whole.ensures) c.if-whole-by.false
