-- `text::number` meets its contract: a number of one or two digits is written as such, any other as its higher digits, of a lower number, and
-- the last two.
use Prim.Native.Nat.{◌/◌, ◌≤◌, ◌<◌}
use native.Mathlib.Omega.{arith}
use Rattle.text.proofs.Putting.{digit_put, two_put, digits_put}
use Rattle.text.proofs.+number.Goals as goal

pub returns-then-n-lt10 : goal.returns-then-n-lt10
returns-then-n-lt10 t c =
    let n = c.args.n in
    let small : n < 10 = omega arith in
    digit_put n small c.last.ensures c.byte.ensures

pub returns-then-n-lt100 : goal.returns-then-n-lt100
returns-then-n-lt100 t c =
    let n = c.args.n in
    let low : 10 ≤ n = omega arith in
    let high : n < 100 = omega arith in
    two_put n low high c.two.ensures

pub returns-then-n-lt1000 : goal.returns-then-n-lt1000
returns-then-n-lt1000 t c =
    let n = c.args.n in
    let low : 100 ≤ n = omega arith in
    let small : n / 100 < 10 = omega arith in
    digits_put n low (digit_put (n / 100) small c.last-then-n-lt1000.ensures c.byte-after.ensures) c.two-then-n-lt1000.ensures

pub returns-then-n-lt10000 : goal.returns-then-n-lt10000
returns-then-n-lt10000 t c =
    let n = c.args.n in
    let low : 1000 ≤ n = omega arith in
    let high : n < 10000 = omega arith in
    digits_put n (omega arith) (two_put (n / 100) (omega arith) (omega arith) c.two-after.ensures) c.two-then-n-lt10000.ensures

pub returns : goal.returns
returns t c =
    let n = c.args.n in
    let low : 10000 ≤ n = omega arith in
    digits_put n (omega arith) c.number-after.ensures c.two-2.ensures
