-- A log is a list of messages: which it has, and what one message more changes.
use Rattle.std.proofs.Common.{◌≡◌, ℕ, zero, suc, ◌⊎◌, List, [], ◌∷◌, ◌++◌, length, Some, sym, refl, ap, ◌∙◌, inl, inr, ⊎_elim, arith}
use Rattle.std.specs.List.{slice_get}

-- 0 is not 1: where messages of two kinds are equal, `cc` proves that they are
pub impossible : {A : Type 0} → ◌≡◌ {A = ℕ} 0 1 → A
impossible e = absurd (omega arith)

module _ {M : Type 0} where
  -- some entry of the log is this message
  pub record Has (log : List M) (m : M) : Type 0 where
    pub entry : ℕ
    pub there : slice_get log entry ≡ Some m

  -- a message of a log is its first or one of the rest
  pub first_or_later : (x : M) (xs : List M) (m : M) → Has (x ∷ xs) m → (x ≡ m) ⊎ Has xs m
  first_or_later x xs m h = go h.entry h.there
    where
      go : (e : ℕ) → slice_get (x ∷ xs) e ≡ Some m → (x ≡ m) ⊎ Has xs m
      go zero t = inl cc
      go (suc e) t = inr (record { entry = e; there = t })

  -- a message of the rest is one of the log
  pub has_later : {x m : M} {xs : List M} → Has xs m → Has (x ∷ xs) m
  has_later h = record { entry = suc h.entry; there = h.there }

  -- the first is one of the log
  pub has_first : (x : M) (xs : List M) → Has (x ∷ xs) x
  has_first x xs = record { entry = zero; there = refl }

  -- no two entries of the log are equal messages
  abbrev pub Distinct : List M → Type 0
  Distinct log = (i j : ℕ) (m : M) → slice_get log i ≡ Some m → slice_get log j ≡ Some m → i ≡ j

  -- the second log has every message of the first
  abbrev pub Grown : List M → List M → Type 0
  Grown log log' = (m : M) → Has log m → Has log' m

  -- To send a message is to add it at the end of the log, or to change nothing where the log has it already.
  pub data Sent (log log' : List M) (m : M) : Type 0 where
    already : Has log m → log' ≡ log → Sent log log' m
    appended : (Has log m → ⊥) → log' ≡ log ++ (m ∷ []) → Sent log log' m

  -- what the proofs use of a sent message
  pub record Adds (log log' : List M) (m : M) : Type 0 where
    pub keeps : Grown log log'
    pub new : (x : M) → Has log' x → Has log x ⊎ (x ≡ m)
    pub distinct : Distinct log → Distinct log'

  -- an entry keeps its place
  pub entry_stays : (log : List M) (m x : M) (e : ℕ) → slice_get log e ≡ Some x → slice_get (log ++ (m ∷ [])) e ≡ Some x
  entry_stays [] m x e h = impossible cc
  entry_stays (y ∷ log) m x zero h = h
  entry_stays (y ∷ log) m x (suc e) h = entry_stays log m x e h

  -- an entry of the longer log is old, or it is the last
  pub entry_is_old_or_last : (log : List M) (m x : M) (e : ℕ) → slice_get (log ++ (m ∷ [])) e ≡ Some x
      → (slice_get log e ≡ Some x) ⊎ ((e ≡ length log) × (x ≡ m))
  entry_is_old_or_last [] m x zero h = inr (refl, cc)
  entry_is_old_or_last [] m x (suc e) h = impossible cc
  entry_is_old_or_last (y ∷ log) m x zero h = inl h
  entry_is_old_or_last (y ∷ log) m x (suc e) h =
      ⊎_elim inl (λ last. inr (ap suc last.0, last.1)) (entry_is_old_or_last log m x e h)

  -- a message that the log did not have leaves all entries distinct
  pub distinct_with_one_more : (log : List M) (m : M) → (Has log m → ⊥) → Distinct log → Distinct (log ++ (m ∷ []))
  distinct_with_one_more log m fresh distinct i j x hi hj =
      go (entry_is_old_or_last log m x i hi) (entry_is_old_or_last log m x j hj)
    where
      go : (slice_get log i ≡ Some x) ⊎ ((i ≡ length log) × (x ≡ m)) → (slice_get log j ≡ Some x) ⊎ ((j ≡ length log) × (x ≡ m)) → i ≡ j
      go (inl oi) (inl oj) = distinct i j x oi oj
      go (inl oi) (inr lj) = absurd (fresh (record { entry = i; there = oi ∙ ap Some lj.1 }))
      go (inr li) (inl oj) = absurd (fresh (record { entry = j; there = oj ∙ ap Some li.1 }))
      go (inr li) (inr lj) = li.0 ∙ sym lj.0

  -- the log with one message more at its end
  pub append_adds : (log : List M) (m : M) → (Has log m → ⊥) → Adds log (log ++ (m ∷ [])) m
  append_adds log m fresh =
      record {
        keeps = λ x h. record { entry = h.entry; there = entry_stays log m x h.entry h.there };
        new = λ x h. ⊎_elim (λ old. inl (record { entry = h.entry; there = old })) (λ last. inr last.1)
            (entry_is_old_or_last log m x h.entry h.there);
        distinct = distinct_with_one_more log m fresh;
      }

  -- a message that is sent is added
  pub sent_adds : {log log' : List M} {m : M} → Sent log log' m → Adds log log' m
  sent_adds {log} {log'} {m} (already h e) = rw e (record { keeps = λ x k. k; new = λ x k. inl k; distinct = λ d. d })
  sent_adds {log} {log'} {m} (appended h e) = rw e (append_adds log m h)

  -- the log has the message afterwards
  pub sent_has : {log log' : List M} {m : M} → Sent log log' m → Has log' m
  sent_has {log} {log'} {m} (already h e) = rw e h
  sent_has {log} {log'} {m} (appended h e) = rw e (record { entry = length log; there = at_the_end log })
    where
      at_the_end : (xs : List M) → slice_get (xs ++ (m ∷ [])) (length xs) ≡ Some m
      at_the_end [] = refl
      at_the_end (x ∷ xs) = at_the_end xs
