-- Which code has a number.
use Rattle.std.proofs.Common.{◌≡◌, refl, arith}
use Rattle.argus_c.specs.Codes.{code_number, done, bad, nothing, small, closed}
use Rattle.argus_c.specs.declared.codes.Code.{Code}
use Rattle.argus_c.specs.declared.codes.Code.TheVariants.{Done, Bad, Nothing, Memory, Small, Closed, Open, Store, NotOurs}

pub is_done : (c : Code) → code_number c ≡ done → c ≡ Done
is_done Done e = refl
is_done Bad e = absurd (omega (arith, e))
is_done Nothing e = absurd (omega (arith, e))
is_done Memory e = absurd (omega (arith, e))
is_done Small e = absurd (omega (arith, e))
is_done Closed e = absurd (omega (arith, e))
is_done Open e = absurd (omega (arith, e))
is_done Store e = absurd (omega (arith, e))
is_done NotOurs e = absurd (omega (arith, e))

pub is_bad : (c : Code) → code_number c ≡ bad → c ≡ Bad
is_bad Done e = absurd (omega (arith, e))
is_bad Bad e = refl
is_bad Nothing e = absurd (omega (arith, e))
is_bad Memory e = absurd (omega (arith, e))
is_bad Small e = absurd (omega (arith, e))
is_bad Closed e = absurd (omega (arith, e))
is_bad Open e = absurd (omega (arith, e))
is_bad Store e = absurd (omega (arith, e))
is_bad NotOurs e = absurd (omega (arith, e))

pub is_nothing : (c : Code) → code_number c ≡ nothing → c ≡ Nothing
is_nothing Done e = absurd (omega (arith, e))
is_nothing Bad e = absurd (omega (arith, e))
is_nothing Nothing e = refl
is_nothing Memory e = absurd (omega (arith, e))
is_nothing Small e = absurd (omega (arith, e))
is_nothing Closed e = absurd (omega (arith, e))
is_nothing Open e = absurd (omega (arith, e))
is_nothing Store e = absurd (omega (arith, e))
is_nothing NotOurs e = absurd (omega (arith, e))

pub is_small : (c : Code) → code_number c ≡ small → c ≡ Small
is_small Done e = absurd (omega (arith, e))
is_small Bad e = absurd (omega (arith, e))
is_small Nothing e = absurd (omega (arith, e))
is_small Memory e = absurd (omega (arith, e))
is_small Small e = refl
is_small Closed e = absurd (omega (arith, e))
is_small Open e = absurd (omega (arith, e))
is_small Store e = absurd (omega (arith, e))
is_small NotOurs e = absurd (omega (arith, e))

pub is_closed : (c : Code) → code_number c ≡ closed → c ≡ Closed
is_closed Done e = absurd (omega (arith, e))
is_closed Bad e = absurd (omega (arith, e))
is_closed Nothing e = absurd (omega (arith, e))
is_closed Memory e = absurd (omega (arith, e))
is_closed Small e = absurd (omega (arith, e))
is_closed Closed e = refl
is_closed Open e = absurd (omega (arith, e))
is_closed Store e = absurd (omega (arith, e))
is_closed NotOurs e = absurd (omega (arith, e))
