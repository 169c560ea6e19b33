-- What is put into bytes, read again: the new bytes at their place, and the others as they were.
use Rattle.std.proofs.Common.{◌≡◌, ℕ, ◌+◌, ◌*◌, ap₂, ◌-◌, ◌<◌, ◌≤◌, min, ◌⊎◌, List, ◌++◌, length, get_or, take, drop, sym, refl, ap, ◌∙◌, ⊎_elim, arith}
use Rattle.std.proofs.lemmas.List.{get_or_append_left, get_or-append_right, get_or-take, get_or-drop, length-take, length-drop, length-take-le, drop-drop, ext_get_or}
use Rattle.std.specs.Int.{from_be_bytes, w16, w32}
use Rattle.message_log.specs.Layout.{put, two, four}
use Rattle.message_log.proofs.Puts.{length-put}

-- a part of a list, place by place
part_length : (xs : List ℕ) (n j : ℕ) → length (take n (drop j xs)) ≡ min n (length xs - j)
part_length xs n j = length-take n (drop j xs) ∙ ap (min n) (length-drop j xs)

pub part_at : (xs : List ℕ) (n j k : ℕ) → k < n → get_or (take n (drop j xs)) k 0 ≡ get_or xs (j + k) 0
part_at xs n j k l = get_or-take n (drop j xs) k 0 l ∙ get_or-drop j xs k 0

same_parts : (xs ys : List ℕ) (n j : ℕ) → length xs ≡ length ys
    → ((k : ℕ) → k < n → get_or xs (j + k) 0 ≡ get_or ys (j + k) 0) → take n (drop j xs) ≡ take n (drop j ys)
same_parts xs ys n j e h =
    ext_get_or 0 _ _ (part_length xs n j ∙ ap (λ (m : ℕ). min n (m - j)) e ∙ sym (part_length ys n j))
    (λ k l.
    let b : k < n = omega (arith, part_length xs n j) in
    part_at xs n j k b ∙ h k b ∙ sym (part_at ys n j k b))

module _ (i : ℕ) (new bytes : List ℕ) (fits : i + length new ≤ length bytes) where
  -- what follows the new bytes
  abbrev rest : List ℕ
  rest = drop (length new) (drop i bytes)

  front : length (take i bytes) ≡ i
  front = length-take-le i bytes (omega arith)

  pub below : (j : ℕ) → j < i → get_or (put i new bytes) j 0 ≡ get_or bytes j 0
  below j l = get_or_append_left (take i bytes) _ 0 j (omega (arith, front)) ∙ get_or-take i bytes j 0 l

  pub above : (j : ℕ) → i + length new ≤ j → get_or (put i new bytes) j 0 ≡ get_or bytes j 0
  above j l =
      let e : i + length new + (j - i - length new) ≡ j = omega arith in
      get_or-append_right (take i bytes) (new ++ rest) i j 0 front (omega arith)
      ∙ get_or-append_right new rest (length new) (j - i) 0 refl (omega arith)
      ∙ ap (λ (d : List ℕ). get_or d (j - i - length new) 0) (drop-drop (length new) i bytes)
      ∙ get_or-drop (i + length new) bytes (j - i - length new) 0
      ∙ ap (λ (n : ℕ). get_or bytes n 0) e

  pub inside : (k : ℕ) → k < length new → get_or (put i new bytes) (i + k) 0 ≡ get_or new k 0
  inside k l =
      let e : i + k - i ≡ k = omega arith in
      get_or-append_right (take i bytes) (new ++ rest) i (i + k) 0 front (omega arith)
      ∙ ap (λ (n : ℕ). get_or (new ++ rest) n 0) e
      ∙ get_or_append_left new rest 0 k l

  -- a part that begins after the new bytes, or ends before them
  pub apart : (n j : ℕ) → (j + n ≤ i) ⊎ (i + length new ≤ j) → take n (drop j (put i new bytes)) ≡ take n (drop j bytes)
  apart n j where-at =
      same_parts (put i new bytes) bytes n j (length-put i new bytes fits)
      (λ k l. ⊎_elim (λ b. below (j + k) (omega arith)) (λ b. above (j + k) (omega arith)) where-at)

  -- the part that was put
  pub there : take (length new) (drop i (put i new bytes)) ≡ new
  there =
      let long : length (take (length new) (drop i (put i new bytes))) ≡ length new =
      omega (arith, part_length (put i new bytes) (length new) i, length-put i new bytes fits)
      in
      ext_get_or 0 _ _ long
      (λ k l.
      let b : k < length new = omega arith in
      part_at (put i new bytes) (length new) i k b ∙ inside k b)

-- a number of two or four bytes, read as a part
pub two_read : (bytes part : List ℕ) (at n : ℕ) → n ≡ from_be_bytes w16 part → part ≡ take 2 (drop at bytes) → n ≡ two bytes at
two_read bytes part at n h p =
    h ∙ ap (from_be_bytes w16) p
    ∙ ap₂ (λ (a b : ℕ). a * 256 + b)
    (part_at bytes 2 at 0 (omega arith) ∙ ap (λ (k : ℕ). get_or bytes k 0) (omega arith))
    (part_at bytes 2 at 1 (omega arith))

pub four_read : (bytes part : List ℕ) (at n : ℕ) → n ≡ from_be_bytes w32 part → part ≡ take 4 (drop at bytes) → n ≡ four bytes at
four_read bytes part at n h p =
    h ∙ ap (from_be_bytes w32) p
    ∙ ap₂ (λ (a b : ℕ). a + b)
    (ap₂ (λ (a b : ℕ). a + b * 256)
    (ap₂ (λ (a b : ℕ). a * 16777216 + b * 65536)
    (part_at bytes 4 at 0 (omega arith) ∙ ap (λ (k : ℕ). get_or bytes k 0) (omega arith))
    (part_at bytes 4 at 1 (omega arith)))
    (part_at bytes 4 at 2 (omega arith)))
    (part_at bytes 4 at 3 (omega arith))
