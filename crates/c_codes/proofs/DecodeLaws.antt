-- From the 64 bits that a call answers, the refusal's number, which, and a place below 2^48 are got back.
use mathlib.Core.Path.{◌≡◌}
use Prim.Native.Nat.{◌<◌}
use native.Mathlib.Omega.{arith}
use Rattle.model.specs.Refusal.{Values}
use Rattle.c_codes.specs.Codes.{place_limit, code_of, decoded}

module _ (v : Values) (number : v.number < 256) (which : v.which < 256) where
  pub number_back : (decoded (code_of v)).number ≡ v.number
  number_back = omega arith

  pub which_back : (decoded (code_of v)).which ≡ v.which
  which_back = omega arith

  pub place_back : v.place < place_limit → (decoded (code_of v)).place ≡ v.place
  place_back h = omega arith
