-- Bytes that are put in the place of others.
use Rattle.std.proofs.Common.{◌≡◌, ℕ, suc, ◌+◌, ◌<◌, ◌≤◌, List, [], ◌∷◌, ◌++◌, length, take, drop, set, sym, ap, ◌∙◌, arith}
use Rattle.std.proofs.lemmas.List.{drop-drop, set_split, length-append, length-take, length-drop}
use Rattle.message_log.specs.Layout.{put}

-- a byte that is set is put
pub byte_put : (i : ℕ) (bytes : List ℕ) (b : ℕ) → i < length bytes → set bytes i b ≡ put i (b ∷ []) bytes
byte_put i bytes b l =
    let e : suc i ≡ i + 1 = omega arith in
    set_split bytes i b l ∙ ap (λ (n : ℕ). take i bytes ++ (b ∷ drop n bytes)) e
    ∙ ap (λ (d : List ℕ). take i bytes ++ (b ∷ d)) (sym (drop-drop 1 i bytes))

-- what is put within the bytes keeps their length
pub length-put : (i : ℕ) (new bytes : List ℕ) → i + length new ≤ length bytes → length (put i new bytes) ≡ length bytes
length-put i new bytes l = simp (length-append, length-take, length-drop) (omega arith)
