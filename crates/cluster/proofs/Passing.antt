-- What follows where tests pass.
use Rattle.std.proofs.Common.{◌≡◌, Bool, true, false, List, [], ◌∷◌, Ok, Err, Result, sym, refl, ap, ◌∙◌}
use Rattle.std.proofs.lemmas.Bool.{cond-true, cond-false}
use Rattle.protocol.proofs.Log.{impossible}
use Rattle.protocol.specs.declared.refusal.Refusal.{Refusal}
use Rattle.protocol.specs.Decisions.{Test, checked, decided}

-- the first test that holds refuses, and then the effect follows: the same in one step or in two
pub decided-checked : {X : Type 0} (tests : List Test) (x : X) → decided tests x ≡ checked tests (Ok x)
decided-checked tests x = refl

-- tests that let y pass as x go on to what comes next at y
pub passed_on : {X Z : Type 0} (tests : List Test) (x y : X) (next : X → Result Z Refusal) → Ok y ≡ decided tests x → next y ≡ checked tests (next x)
passed_on [] x y next h = let e : y ≡ x = cc in ap next e
passed_on {X} {Z} (test ∷ tests) x y next h = go (passed_on tests x y next) test.refuses refl
  where
    go : (Ok y ≡ decided tests x → next y ≡ checked tests (next x)) → (b : Bool) → test.refuses ≡ b → next y ≡ checked (test ∷ tests) (next x)
    go rest true e =
        let q : ◌≡◌ {A = Result X Refusal} (Ok y) (Err test.with) = h ∙ cond-true test.refuses _ _ e in
        impossible cc
    go rest false e = rest (h ∙ cond-false test.refuses _ _ e) ∙ sym (cond-false test.refuses _ _ e)
