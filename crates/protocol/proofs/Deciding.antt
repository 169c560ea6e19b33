-- A decision that is taken: no test refused, and the effect is the one that was defined.
use Rattle.std.proofs.Common.{◌≡◌, ℕ, Bool, true, false, List, [], ◌∷◌, Ok, Err, sym, refl, ◌∙◌, arith}
use Rattle.std.proofs.lemmas.Bool.{cond-true, cond-false}
use Rattle.protocol.specs.Decisions.{Test, decided}

-- no test of the list refuses
abbrev pub Passed : List Test → Type 0
Passed [] = Unit {0}
Passed (test ∷ tests) = (test.refuses ≡ false) × Passed tests

pub taken : {X : Type 0} (tests : List Test) (x e : X) → decided tests x ≡ Ok e → Passed tests × (x ≡ e)
taken [] x e h = (tt, cc)
taken {X} (test ∷ tests) x e h = go (taken tests x e) test.refuses refl
  where
    go : (decided tests x ≡ Ok e → Passed tests × (x ≡ e)) → (b : Bool) → test.refuses ≡ b → ((test.refuses ≡ false) × Passed tests) × (x ≡ e)
    go rest true p =
        let q : ◌≡◌ (Err test.with) (Ok e) = sym (cond-true test.refuses _ _ p) ∙ h in
        let z : ◌≡◌ {A = ℕ} 0 1 = cc in
        absurd (omega arith)
    go rest false p =
        let r = rest (sym (cond-false test.refuses _ _ p) ∙ h) in
        ((p, r.0), r.1)
