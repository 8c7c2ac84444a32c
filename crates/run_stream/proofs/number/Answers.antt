-- Where four bytes are left, the number isn't cut.
use Rattle.std.proofs.Common.{arith, refl, ap, length, drop, length-drop, length-take}
use Rattle.run_stream.proofs.number.Goals as goal

pub returns-in-Some-clause-cut : goal.returns-in-Some-clause-cut
returns-in-Some-clause-cut c =
    λ cut.
    let bytes = c.args.bytes.now in
    let left = ap length c.part.ensures.bytes in
    absurd (omega (
      arith,
      cut,
      c.in-Some.ensures.variant.0 refl,
      left,
      length-drop c.args.i bytes,
      length-take 4 (drop c.args.i bytes),
    ))
