-- A log with one more entry, and an empty one.
use Rattle.std.proofs.Common.{◌≡◌, ℕ, zero, suc, ◌+◌, ◌-◌, ◌*◌, ◌<◌, ◌≤◌, Bool, true, false, ◌==◌, nat_lt, nat_le, List, [], ◌∷◌, ◌++◌, map, length, get_or, take, drop, replicate, is_some, Some, None, Ok, Err, Option, sym, refl, ap, ◌∙◌, subst, ap₂, inl, inr, arith}
use Rattle.std.specs.List.{range_with_len}
use Rattle.std.specs.Option.{option_map}
use Rattle.std.proofs.lemmas.List.FromFn.{map-range_with_len_more, length-map-range_with_len}
use Rattle.std.proofs.lemmas.List.{get_or-append_right, get_or-replicate, length-replicate}
use Rattle.std.proofs.lemmas.Slice.Eq.{bytes_eq-Decides}
use Rattle.std.proofs.lemmas.Bool.{and_parts, and_from, leb-true, le-leb, eqb-true, eq-eqb, ltb-true, cond-true, cond-false}
use Rattle.message_log.specs.declared.fault.Fault.TheVariants.{LogFull}
use Rattle.message_log.specs.declared.header.Sizes.{Sizes}
use Rattle.message_log.specs.Layout.{put, in_two, capacity_of, count_of, log_length, legal_capacity, well_formed, kind_place, body_place}
use Rattle.protocol.specs.Positions.{position}
use Rattle.message_log.specs.Log.{sizes_of, Stored, stored_at, entries, same_stored, added, add_unless, append_entry, append_to, Outcome, cleared}
use Rattle.message_log.specs.Added.{Empty, Holds}
use Rattle.message_log.proofs.Puts.{length-put, byte_put}
use Rattle.message_log.proofs.PutThenRead as read
use Rattle.std.proofs.lemmas.Nat.{from_be_bytes-to_be_bytes_2}

-- what a well-formed log keeps
pub record Formed (bytes : List ℕ) : Type 0 where
  pub legal : legal_capacity (capacity_of bytes) ≡ true
  pub few : capacity_of bytes ≤ 2048
  pub long : length bytes ≡ log_length (capacity_of bytes)
  pub within : count_of bytes ≤ capacity_of bytes

pub formed : (bytes : List ℕ) → well_formed bytes ≡ true → Formed bytes
formed bytes h =
    let p = and_parts (legal_capacity (capacity_of bytes)) _ h in
    let q = and_parts (length bytes == log_length (capacity_of bytes)) _ p.1 in
    let r = and_parts (nat_lt 0 (capacity_of bytes)) (nat_le (capacity_of bytes) 2048) p.0 in
    record { legal = p.0; few = leb-true _ _ r.1; long = eqb-true _ _ q.0; within = leb-true _ _ q.1 }

-- a function of the index that is the same below n gives the same list
same_below : {X : Type 0} (f g : ℕ → X) (n a : ℕ) → ((k : ℕ) → k < n → f (a + k) ≡ g (a + k))
    → map f (range_with_len a n) ≡ map g (range_with_len a n)
same_below f g zero a h = refl
same_below f g (suc n) a h =
    let here : a + 0 ≡ a = omega arith in
    ap₂ ◌∷◌ (ap f (sym here) ∙ h 0 (omega arith) ∙ ap g here)
    (same_below f g n (a + 1)
    (λ k l.
    let e : a + 1 + k ≡ a + (k + 1) = omega arith in
    ap f e ∙ h (k + 1) (omega arith) ∙ ap g (sym e)))

-- the lowest place of a test in a list with one more element
position-push : {X : Type 0} (test : X → Bool) (xs : List X) (x : X) → position test xs ≡ None → test x ≡ true
    → position test (xs ++ x ∷ []) ≡ Some (length xs)
unfolding position
position-push test [] x h t = cond-true (test x) _ _ t
position-push test (y ∷ ys) x h t = go (position-push test ys x) (test y) refl (position test ys) refl
  where
    go : (position test ys ≡ None → test x ≡ true → position test (ys ++ x ∷ []) ≡ Some (length ys)) → (b : Bool) → test y ≡ b
        → (o : Option ℕ) → position test ys ≡ o → position test (y ∷ ys ++ x ∷ []) ≡ Some (suc (length ys))
    go rest true e o p =
        let q : ◌≡◌ {A = Option ℕ} (Some 0) None = sym (cond-true (test y) _ _ e) ∙ h in
        let z : ◌≡◌ {A = ℕ} 0 1 = cc in
        absurd (omega arith)
    go rest false e None p = cond-false (test y) _ _ e ∙ ap (option_map suc) (rest p t)
    go rest false e (Some i) p =
        let q : ◌≡◌ {A = Option ℕ} (Some (suc i)) None = sym (cond-false (test y) _ _ e ∙ ap (option_map suc) p) ∙ h in
        let z : ◌≡◌ {A = ℕ} 0 1 = cc in
        absurd (omega arith)

pub same_itself : (x : Stored) → same_stored x x ≡ true
same_itself x = and_from _ _ (eq-eqb _ _ refl) ((bytes_eq-Decides x.body x.body).1 refl)

module _ (bytes : List ℕ) (x : Stored) (log : well_formed bytes ≡ true) (room : count_of bytes < capacity_of bytes)
    (whole : length x.body ≡ 26) where
  -- the sizes, the places, and the bytes after each of the three writes
  abbrev c : ℕ
  c = capacity_of bytes

  abbrev m : ℕ
  m = count_of bytes

  abbrev one : List ℕ
  one = put (body_place c m) x.body bytes

  abbrev two_writes : List ℕ
  two_writes = put (kind_place m) (x.kind ∷ []) one

  F : Formed bytes
  F = formed bytes log

  fits_body : body_place c m + length x.body ≤ length bytes
  fits_body = omega (arith, F.long)

  long_one : length one ≡ length bytes
  long_one = length-put (body_place c m) x.body bytes fits_body

  fits_kind : kind_place m + 1 ≤ length one
  fits_kind = omega (arith, F.long, long_one)

  long_two : length two_writes ≡ length bytes
  long_two = length-put (kind_place m) (x.kind ∷ []) one fits_kind ∙ long_one

  fits_count : 2 + 2 ≤ length two_writes
  fits_count = omega (arith, F.long, long_two)

  abbrev after : List ℕ
  after = put 2 (in_two (m + 1)) two_writes

  after_is : added bytes x ≡ after
  after_is = ap (put 2 (in_two (m + 1))) (byte_put (kind_place m) one x.kind (omega (arith, fits_kind)))

  long_after : length after ≡ length bytes
  long_after = length-put 2 (in_two (m + 1)) two_writes fits_count ∙ long_two

  size_byte : (j : ℕ) → j < 2 → get_or after j 0 ≡ get_or bytes j 0
  size_byte j l =
      read.below 2 (in_two (m + 1)) two_writes fits_count j l
      ∙ read.below (kind_place m) (x.kind ∷ []) one fits_kind j (omega arith)
      ∙ read.below (body_place c m) x.body bytes fits_body j (omega arith)

  capacity_kept : capacity_of after ≡ c
  capacity_kept = ap₂ (λ (a b : ℕ). a * 256 + b) (size_byte 0 (omega arith)) (size_byte 1 (omega arith))

  count_raised : count_of after ≡ m + 1
  count_raised =
      ap₂ (λ (a b : ℕ). a * 256 + b)
      (read.inside 2 (in_two (m + 1)) two_writes fits_count 0 (omega arith))
      (read.inside 2 (in_two (m + 1)) two_writes fits_count 1 (omega arith))
      ∙ from_be_bytes-to_be_bytes_2 (m + 1) (omega (arith, F.few))

  still_a_log : well_formed after ≡ true
  still_a_log =
      and_from _ _ (ap legal_capacity capacity_kept ∙ F.legal)
      (and_from _ _
      (eq-eqb _ _ (long_after ∙ F.long ∙ ap log_length (sym capacity_kept)))
      (le-leb _ _ (omega (arith, count_raised, capacity_kept))))

  kept_entry : (k : ℕ) → k < m → stored_at after k ≡ stored_at bytes k
  kept_entry k l =
      ap₂ (λ (a : ℕ) (b : List ℕ). record { kind = a; body = b })
      (read.above 2 (in_two (m + 1)) two_writes fits_count (kind_place k) (omega arith)
      ∙ read.below (kind_place m) (x.kind ∷ []) one fits_kind (kind_place k) (omega arith)
      ∙ read.below (body_place c m) x.body bytes fits_body (kind_place k) (omega arith))
      (ap (λ (a : ℕ). take 26 (drop (body_place a k) after)) capacity_kept
      ∙ read.apart 2 (in_two (m + 1)) two_writes fits_count 26 (body_place c k) (inr (omega arith))
      ∙ read.apart (kind_place m) (x.kind ∷ []) one fits_kind 26 (body_place c k) (inr (omega arith))
      ∙ read.apart (body_place c m) x.body bytes fits_body 26 (body_place c k) (inl (omega arith)))

  new_entry : stored_at after m ≡ x
  new_entry =
      let place : kind_place m + 0 ≡ kind_place m = omega arith in
      ap₂ (λ (a : ℕ) (b : List ℕ). record { kind = a; body = b })
      (read.above 2 (in_two (m + 1)) two_writes fits_count (kind_place m) (omega arith)
      ∙ ap (λ (a : ℕ). get_or two_writes a 0) (sym place)
      ∙ read.inside (kind_place m) (x.kind ∷ []) one fits_kind 0 (omega arith))
      (ap (λ (a : ℕ). take 26 (drop (body_place a m) after)) capacity_kept
      ∙ read.apart 2 (in_two (m + 1)) two_writes fits_count 26 (body_place c m) (inr (omega arith))
      ∙ read.apart (kind_place m) (x.kind ∷ []) one fits_kind 26 (body_place c m) (inr (omega arith))
      ∙ ap (λ (a : ℕ). take a (drop (body_place c m) one)) (sym whole)
      ∙ read.there (body_place c m) x.body bytes fits_body)

  one_more : entries after ≡ entries bytes ++ x ∷ []
  one_more =
      ap (λ (n : ℕ). map (stored_at after) (range_with_len 0 n)) count_raised
      ∙ map-range_with_len_more (stored_at after) 0 m m (omega arith)
      ∙ ap₂ (λ (a : List Stored) (b : Stored). a ++ b ∷ [])
      (same_below (stored_at after) (stored_at bytes) m 0
      (λ k l.
      let e : 0 + k ≡ k = omega arith in
      ap (stored_at after) e ∙ kept_entry k l ∙ ap (stored_at bytes) (sym e)))
      new_entry

  -- x was not there, and is added
  pub holds_added : position (same_stored x) (entries bytes) ≡ None → Holds bytes (added bytes x) x m
  holds_added none =
      let holds : Holds bytes after x m =
      record {
        log = still_a_log;
        room = capacity_kept;
        list = one_more
            ∙ sym (cond-false (is_some (position (same_stored x) (entries bytes))) _ _ (ap is_some none));
        lowest = ap (position (same_stored x)) one_more
            ∙ position-push (same_stored x) (entries bytes) x none (same_itself x)
            ∙ ap Some (length-map-range_with_len (stored_at bytes) 0 m);
      }
      in
      subst (λ (b : List ℕ). Holds bytes b x m) (sym after_is) holds

-- the lowest place of a test in a list is within it
place_within : {X : Type 0} (test : X → Bool) (xs : List X) (i : ℕ) → position test xs ≡ Some i → i < length xs
unfolding position
place_within test [] i h = grind arith
place_within test (x ∷ xs) i h = go (place_within test xs) (test x) refl (position test xs) refl
  where
    go : ((j : ℕ) → position test xs ≡ Some j → j < length xs) → (b : Bool) → test x ≡ b → (o : Option ℕ) → position test xs ≡ o → i < suc (length xs)
    go rest true e o p = grind arith
    go rest false e None p = grind arith
    go rest false e (Some j) p = grind (arith, rest j p)

-- the sizes of a log
pub record Opened (bytes : List ℕ) (s : Sizes) : Type 0 where
  pub log : well_formed bytes ≡ true
  pub capacity : s.capacity ≡ capacity_of bytes
  pub count : s.count ≡ count_of bytes

pub opened : (bytes : List ℕ) (s : Sizes) → sizes_of bytes ≡ Ok s → Opened bytes s
opened bytes s h = go (well_formed bytes) refl
  where
    go : (b : Bool) → well_formed bytes ≡ b → Opened bytes s
    go true e =
        let q : Ok (record { capacity = capacity_of bytes; count = count_of bytes }) ≡ Ok s = sym (cond-true (well_formed bytes) _ _ e) ∙ h in
        record { log = e; capacity = cc; count = cc }
    go false e = grind arith

-- an entry whose place is the count is added there, and there is room for it
pub record AddsNew (bytes : List ℕ) (x : Stored) (s : Sizes) : Type 0 where
  pub room : s.count < s.capacity
  pub outcome : append_to bytes x ≡ record { answer = Ok s.count; bytes = added bytes x }
  pub holds : Holds bytes (added bytes x) x s.count

pub adds_new : (bytes : List ℕ) (x : Stored) (s : Sizes) → length x.body ≡ 26 → sizes_of bytes ≡ Ok s
    → Ok s.count ≡ (append_entry bytes x).answer → AddsNew bytes x s
adds_new bytes x s whole is-log h =
    go (opened bytes s is-log) (position (same_stored x) (entries bytes)) refl (nat_lt (count_of bytes) (capacity_of bytes)) refl
  where
    go : Opened bytes s → (o : Option ℕ) → position (same_stored x) (entries bytes) ≡ o → (b : Bool) → nat_lt (count_of bytes) (capacity_of bytes) ≡ b → AddsNew bytes x s
    go o (Some e) p b q =
        let l = place_within (same_stored x) (entries bytes) e p in
        let many : length (entries bytes) ≡ count_of bytes = length-map-range_with_len (stored_at bytes) 0 (count_of bytes) in
        let same : Ok s.count ≡ Ok e = h ∙ ap (λ (f : Option ℕ). (add_unless f bytes x).answer) p in
        let is : s.count ≡ e = cc in
        absurd (omega (arith, o.count))
    go o None p true q = record {
      room = omega (arith, ltb-true _ _ q, o.capacity, o.count);
      outcome = cond-true (well_formed bytes) _ _ o.log ∙ ap (λ (f : Option ℕ). add_unless f bytes x) p
          ∙ cond-true (nat_lt (count_of bytes) (capacity_of bytes)) _ _ q
          ∙ ap (λ (n : ℕ). record { answer = Ok n; bytes = added bytes x }) (sym o.count);
      holds = rw o.count (holds_added bytes x o.log (ltb-true _ _ q) whole p);
    }
    go o None p false q =
        let same : Ok s.count ≡ Err LogFull =
        h ∙ ap (λ (f : Option ℕ). (add_unless f bytes x).answer) p
        ∙ ap (λ (o : Outcome ℕ). o.answer) (cond-false (nat_lt (count_of bytes) (capacity_of bytes)) _ _ q)
        in
        let z : ◌≡◌ {A = ℕ} 0 1 = cc in
        absurd (omega arith)

-- a cleared log
zero_byte : (k j : ℕ) → 2 ≤ j → j < 4 + 27 * k → get_or (cleared k) j 0 ≡ 0
zero_byte k j l h =
    get_or-append_right (in_two k) (replicate (2 + 27 * k) 0) 2 j 0 refl l ∙ get_or-replicate (2 + 27 * k) (j - 2) 0 0 (omega arith)

pub empty_log : (k : ℕ) → legal_capacity k ≡ true → Empty k (cleared k)
empty_log k h =
    let p = and_parts (nat_lt 0 k) (nat_le k 2048) h in
    let few : k ≤ 2048 = leb-true _ _ p.1 in
    let room : capacity_of (cleared k) ≡ k = from_be_bytes-to_be_bytes_2 k (omega arith) in
    let none : count_of (cleared k) ≡ 0 =
    ap₂ (λ (a b : ℕ). a * 256 + b) (zero_byte k 2 (omega arith) (omega arith))
    (zero_byte k 3 (omega arith) (omega (arith, ltb-true _ _ p.0)))
    in
    let long : length (cleared k) ≡ log_length k = omega (arith, length-replicate {A = ℕ} (2 + 27 * k) 0) in
    record {
      log = and_from _ _ (ap legal_capacity room ∙ h)
          (and_from _ _ (eq-eqb _ _ (long ∙ ap log_length (sym room))) (le-leb _ _ (omega (arith, none))));
      room = room;
      none = ap (λ (n : ℕ). map (stored_at (cleared k)) (range_with_len 0 n)) none;
    }
