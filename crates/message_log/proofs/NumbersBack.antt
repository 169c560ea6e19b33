-- Numbers that fit their places in a body come back from the body that is made of them.
use Rattle.std.proofs.Common.{◌≡◌, ℕ, ◌+◌, ◌*◌, ◌/◌, ◌%◌, ◌^◌, ◌<◌, refl, mod-eq_of_lt, arith}
use Rattle.std.proofs.lemmas.Nat.{shr-shr, div-add-mod'}
use Rattle.message_log.specs.declared.fields.Fields.{Fields}
use Rattle.message_log.specs.Body.{fields_in, body_with}
use Rattle.message_log.proofs.RoundTrip.{same_fields}

-- a number comes back from its bytes
two_back : (n : ℕ) → n < 2 ^ 16 → n / 256 % 256 * 256 + n % 256 ≡ n
two_back n h = omega (arith, div-add-mod' n 256)

four_back : (n : ℕ) → n < 2 ^ 32
    → n / 16777216 % 256 * 16777216 + n / 65536 % 256 * 65536 + n / 256 % 256 * 256 + n % 256 ≡ n
four_back n h =
    let a : n / 256 / 256 ≡ n / 65536 = shr-shr n 8 8 in
    let b : n / 65536 / 256 ≡ n / 16777216 = shr-shr n 16 8 in
    let top : n / 16777216 < 256 = omega arith in
    let c : n / 16777216 % 256 ≡ n / 16777216 = mod-eq_of_lt top in
    let d : n / 65536 ≡ n / 16777216 * 256 + n / 65536 % 256 = omega (arith, div-add-mod' (n / 65536) 256) in
    let e : n / 256 ≡ n / 65536 * 256 + n / 256 % 256 = omega (arith, div-add-mod' (n / 256) 256) in
    let f : n ≡ n / 256 * 256 + n % 256 = omega (arith, div-add-mod' n 256) in
    omega arith

-- each number of a body fits its place
pub record Fitting (f : Fields) : Type 0 where
  pub term : f.term < 2 ^ 32
  pub version : f.version < 2 ^ 32
  pub base_term : f.base_term < 2 ^ 32
  pub base_version : f.base_version < 2 ^ 32
  pub value : f.value < 2 ^ 32
  pub configuration : f.configuration.bits < 2 ^ 16
  pub committed : f.committed_configuration.bits < 2 ^ 16

pub numbers_back : (f : Fields) → Fitting f → fields_in (body_with f) ≡ f
numbers_back f h =
    same_fields f _ _ _ _ _ _ _ _
    refl
    (four_back f.term h.term)
    (four_back f.version h.version)
    (four_back f.base_term h.base_term)
    (four_back f.base_version h.base_version)
    (four_back f.value h.value)
    (two_back f.configuration.bits h.configuration)
    (two_back f.committed_configuration.bits h.committed)
