-- A pair of banks does on each side what the bank of that side does.
use Rattle.std.proofs.Common.{◌≡◌, ℕ, ◌+◌, ◌-◌, ◌^◌, ◌<◌, min, Bool, true, false, ◌&&◌, List, [], ◌∷◌, ◌++◌, length, set, Some, None, Option, refl, arith}
use Rattle.std.proofs.lemmas.List.{get_or_append_left, get_or-append_right, set-append_left, set-append_right, length-append}
use Rattle.std.proofs.lemmas.Bool.Decides.{nat_tests}
use Rattle.store.specs.Banks.{most_counted, absent, store_at, asked, all_sound, number_on_right, BankWritten}
use Rattle.store.specs.Stores.{Meaning, finishes, after_write}
use Rattle.protocol.specs.declared.change.Change.{Change}
use Rattle.store.specs.declared.power.Power.{Power}

pub all_sound_append : (xs ys : List Meaning) → all_sound (xs ++ ys) ≡ (all_sound xs && all_sound ys)
all_sound_append [] ys = refl
all_sound_append (x ∷ xs) ys = go x.sound (all_sound_append xs ys) where
  go : (b : Bool) → all_sound (xs ++ ys) ≡ (all_sound xs && all_sound ys) → (b && all_sound (xs ++ ys)) ≡ ((b && all_sound xs) && all_sound ys)
  go true e = e
  go false e = refl

-- A number that is not past the left bank's stores is a store of that bank, and the pair's store by the same number.
inside_left : (xs : List Meaning) (n at : ℕ) → n ≡ min (length xs) most_counted → None ≡ number_on_right n at → at < length xs
inside_left xs n at counted e = grind (arith, nat_tests)

-- One that is past them is the pair's store by its number from there on.
outside_left : (xs : List Meaning) (n at i : ℕ) → n ≡ min (length xs) most_counted → at < 2 ^ 16 → Some i ≡ number_on_right n at → at ≡ length xs + i
outside_left xs n at i counted small e = grind (arith, nat_tests)

module _ (change : Change ℕ) (power : Power) (finished : Option Bool) (xs ys after : List Meaning) (n at : ℕ) (counted : n ≡ min (length xs) most_counted) where
  long : length (xs ++ ys) ≡ length xs + length ys
  long = length-append xs ys

  pub written_left : None ≡ number_on_right n at → BankWritten xs at change power finished after → BankWritten (xs ++ ys) at change power finished (after ++ ys)
  written_left e w =
      let h : at < length xs = inside_left xs n at counted e in
      let l : length (xs ++ ys) ≡ length xs + length ys = long in
      let store : store_at (xs ++ ys) at ≡ store_at xs at = get_or_append_left xs ys absent at h in
      let new : Meaning = after_write (store_at xs at) change power w.keeps_new in
      let put : set (xs ++ ys) at new ≡ set xs at new ++ ys = set-append_left xs ys at new h in
      let answer : finished ≡ asked (λ (store : Meaning). finishes store power) xs at = w.answer in
      let allowed : (store_at xs at).may_keep change power w.keeps_new ≡ true = w.allowed in
      let same : after ≡ set xs at new = w.same in
      record { answer = grind (arith, nat_tests); keeps_new = w.keeps_new; allowed = cc; same = cc }

  pub written_right : (i : ℕ) → at < 2 ^ 16 → Some i ≡ number_on_right n at → BankWritten ys i change power finished after → BankWritten (xs ++ ys) at change power finished (xs ++ after)
  written_right i small e w =
      let h : at ≡ length xs + i = outside_left xs n at i counted small e in
      let l : length (xs ++ ys) ≡ length xs + length ys = long in
      let there : at - length xs ≡ i = omega (arith, h) in
      let store : store_at (xs ++ ys) at ≡ store_at ys (at - length xs) = get_or-append_right xs ys (length xs) at absent refl (omega (arith, h)) in
      let new : Meaning = after_write (store_at ys i) change power w.keeps_new in
      let put : set (xs ++ ys) at new ≡ xs ++ set ys (at - length xs) new = set-append_right xs ys (length xs) at new refl (omega (arith, h)) in
      let answer : finished ≡ asked (λ (store : Meaning). finishes store power) ys i = w.answer in
      let allowed : (store_at ys i).may_keep change power w.keeps_new ≡ true = w.allowed in
      let same : after ≡ set ys i new = w.same in
      record { answer = grind (arith, nat_tests); keeps_new = w.keeps_new; allowed = cc; same = cc }
