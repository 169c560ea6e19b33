-- A write to a ring, finished or cut, leaves the old record or the new one, whole.
-- The number of slots is a variable throughout.
use Rattle.std.proofs.Common.{◌≡◌, ℕ, ◌+◌, ◌-◌, ◌*◌, ◌<◌, ◌≤◌, Bool, true, false, cond, ◌&&◌, ◌||◌, leb, ◌≢◌, ◌⊎◌, List, length, get_or, take, set, Some, None, Option, sym, refl, ap, ◌∙◌, inl, inr, arith}
use Rattle.std.proofs.lemmas.List.{length-set, get_or-set_same, get_or-set_other, drop-set-lt}
use Rattle.std.proofs.lemmas.Bool.{le-leb, cond-true, cond-false, cases_order}
use Rattle.std.proofs.lemmas.Bool.Decides.{nat_tests}
use Rattle.protocol.specs.declared.record.Record.{Record}
use Rattle.protocol.specs.Changes.{changed}
use Rattle.store.specs.Overwriting.{part, spent, overwritten_at}
use Rattle.store.specs.Ring.{header_size, least_slots, most_slots, ring_size, slots_of, current_of, well_formed, term_place, state_place, record_in, ring, number_lands, next_slot, left_for_number, filled, turned, after_change}
use Rattle.store.specs.Slots.{term_size, state_size, record_of, term_bytes, state_bytes, ReadsBack}
use Rattle.store.specs.Stores.{Meaning, zeros, finishes, after_write, Written, last_lands, by_last_write}
use Rattle.protocol.specs.declared.change.Change.{Change}
use Rattle.store.specs.declared.power.Power.{Power}
use Rattle.store.proofs.Overwriting.{length-overwritten_at, before_overwritten_at, apart, part-overwritten_at}

-- the form of a ring, as facts
pub record Form (bytes : List ℕ) : Type 0 where
  pub least : least_slots ≤ slots_of bytes
  pub most : slots_of bytes ≤ most_slots
  pub width : get_or bytes 1 0 ≡ state_size
  pub current : current_of bytes < slots_of bytes
  pub long : length bytes ≡ header_size + (term_size + state_size) * slots_of bytes

pub form : (bytes : List ℕ) → well_formed bytes ≡ true → Form bytes
form bytes h = record {
  least = grind (arith, nat_tests);
  most = grind (arith, nat_tests);
  width = grind (arith, nat_tests);
  current = grind (arith, nat_tests);
  long = grind (arith, nat_tests);
}

pub formed : (bytes : List ℕ) → Form bytes → well_formed bytes ≡ true
formed bytes f =
    let a : least_slots ≤ slots_of bytes = f.least in
    let b : slots_of bytes ≤ most_slots = f.most in
    let c : get_or bytes 1 0 ≡ state_size = f.width in
    let d : current_of bytes < slots_of bytes = f.current in
    let e : length bytes ≡ header_size + (term_size + state_size) * slots_of bytes = f.long in
    grind (arith, nat_tests)

-- the record that two parts of the bytes make
record_from : (bytes : List ℕ) (slots slot : ℕ) (term state : List ℕ) → slots_of bytes ≡ slots → part (term_place slot) term_size bytes ≡ term
    → part (state_place slots slot) state_size bytes ≡ state → record_in slot bytes ≡ record_of term state
record_from bytes slots slot term state k t s = cc

-- What filling a slot leaves: the header, the length, and the record of every other slot; and with enough
-- power the slot holds the record.
module _ (bytes : List ℕ) (f : Form bytes) (slot : ℕ) (inside : slot < slots_of bytes) (new : Record ℕ) (power : Power) where
  fits_term : term_place slot + length (term_bytes new) ≤ length bytes
  fits_term = omega (arith, f.long)

  fits_state : state_place (slots_of bytes) slot + length (state_bytes new) ≤ length (overwritten_at (Some power) (term_place slot) (term_bytes new) bytes)
  fits_state = rw (length-overwritten_at (term_place slot) (term_bytes new) bytes fits_term (Some power)) (omega (arith, f.long))

  pub length-filled : length (filled slot new power bytes) ≡ length bytes
  length-filled = length-overwritten_at (state_place (slots_of bytes) slot) (state_bytes new) _ fits_state (spent term_size (Some power))
      ∙ length-overwritten_at (term_place slot) (term_bytes new) bytes fits_term (Some power)

  pub header_filled : (i : ℕ) → i < header_size → get_or (filled slot new power bytes) i 0 ≡ get_or bytes i 0
  header_filled i h = before_overwritten_at (state_place (slots_of bytes) slot) (state_bytes new) _ fits_state (spent term_size (Some power)) i (omega arith)
      ∙ before_overwritten_at (term_place slot) (term_bytes new) bytes fits_term (Some power) i (omega arith)

  -- a part that lies apart from the slot's term and state
  apart_filled : (q size : ℕ) → (q + size ≤ state_place (slots_of bytes) slot) ⊎ (state_place (slots_of bytes) slot + state_size ≤ q)
      → (q + size ≤ term_place slot) ⊎ (term_place slot + term_size ≤ q) → part q size (filled slot new power bytes) ≡ part q size bytes
  apart_filled q size from-state from-term =
      apart (state_place (slots_of bytes) slot) (state_bytes new) _ fits_state (spent term_size (Some power)) q size from-state
      ∙ apart (term_place slot) (term_bytes new) bytes fits_term (Some power) q size from-term

  pub others_filled : (other : ℕ) → other < slots_of bytes → other ≢ slot → record_in other (filled slot new power bytes) ≡ record_in other bytes
  others_filled other h differ = go (cases_order other slot) where
    made : part (term_place other) term_size (filled slot new power bytes) ≡ part (term_place other) term_size bytes
        → part (state_place (slots_of bytes) other) state_size (filled slot new power bytes) ≡ part (state_place (slots_of bytes) other) state_size bytes
        → record_in other (filled slot new power bytes) ≡ record_in other bytes
    made t s = record_from (filled slot new power bytes) (slots_of bytes) other _ _ (header_filled 0 (omega arith)) t s

    go : (other ≡ slot) ⊎ ((other < slot) ⊎ (slot < other)) → record_in other (filled slot new power bytes) ≡ record_in other bytes
    go (inl e) = absurd (differ e)
    go (inr (inl lt)) = made (apart_filled (term_place other) term_size (inl (omega arith)) (inl (omega arith)))
        (apart_filled (state_place (slots_of bytes) other) state_size (inl (omega arith)) (inr (omega arith)))
    go (inr (inr gt)) = made (apart_filled (term_place other) term_size (inl (omega arith)) (inr (omega arith)))
        (apart_filled (state_place (slots_of bytes) other) state_size (inr (omega arith)) (inr (omega arith)))

  pub slot_filled : term_size + state_size ≤ power.budget → ReadsBack new → record_in slot (filled slot new power bytes) ≡ new
  slot_filled enough back =
      let rest : Power = record { budget = power.budget - term_size; residue = power.residue } in
      let left : spent term_size (Some power) ≡ Some rest = cond-true (leb term_size power.budget) (Some rest) None (le-leb _ _ (omega arith)) in
      let first : List ℕ = overwritten_at (Some power) (term_place slot) (term_bytes new) bytes in
      let t : part (term_place slot) term_size (filled slot new power bytes) ≡ term_bytes new =
      apart (state_place (slots_of bytes) slot) (state_bytes new) _ fits_state (spent term_size (Some power)) (term_place slot) term_size (inl (omega arith))
      ∙ part-overwritten_at (term_place slot) (term_bytes new) bytes fits_term power (omega arith) in
      let s : part (state_place (slots_of bytes) slot) state_size (filled slot new power bytes) ≡ state_bytes new =
      ap (λ (o : Option Power). part (state_place (slots_of bytes) slot) state_size (overwritten_at o (state_place (slots_of bytes) slot) (state_bytes new) first)) left
      ∙ part-overwritten_at (state_place (slots_of bytes) slot) (state_bytes new) first fits_state rest (omega arith) in
      record_from (filled slot new power bytes) (slots_of bytes) slot (term_bytes new) (state_bytes new) (header_filled 0 (omega arith)) t s ∙ back

-- The power that is left for the slot number.
module _ (power : Power) where
  -- the slot number lands where the write finishes, and where its last byte write is the one that is caught, with an odd residue
  pub lands : number_lands (left_for_number power) ≡ (leb ring_size power.budget || last_lands ring_size power)
  lands = grind (arith, nat_tests)

  pub lands_enough : number_lands (left_for_number power) ≡ true → term_size + state_size ≤ power.budget
  lands_enough h = grind (arith, nat_tests, lands)

-- What a write leaves, of any store: an unsound one as it was, a sound one with the new record or the old.
pub unsound_stays : (store : Meaning) (change : Change ℕ) (power : Power) (keeps_new : Bool) → store.sound ≡ false → after_write store change power keeps_new ≡ store
unsound_stays store change power keeps_new e =
    let test : (finishes store power || (store.sound && keeps_new)) ≡ false = ap (λ (b : Bool). (b && leb store.size power.budget) || (b && keeps_new)) e in
    ap (λ (r : Record ℕ). record { content = r; size = store.size; sound = store.sound; may_keep = store.may_keep })
    (cond-false (finishes store power || (store.sound && keeps_new)) (changed change store.content) store.content test)

sound_holds : (store : Meaning) (change : Change ℕ) (power : Power) (keeps_new : Bool) → store.sound ≡ true → after_write store change power keeps_new ≡ record {
  content = cond (leb store.size power.budget || keeps_new) (changed change store.content) store.content;
  size = store.size;
  sound = true;
  may_keep = store.may_keep;
}
sound_holds store change power keeps_new e = cc

-- a ring that has the form and holds this record
ring_holds : (bytes : List ℕ) (content : Record ℕ) → well_formed bytes ≡ true → record_in (current_of bytes) bytes ≡ content → ring bytes ≡ record {
  content = content;
  size = ring_size;
  sound = true;
  may_keep = by_last_write ring_size;
}
ring_holds bytes content h e = cc

-- the next slot is one of the slots, and another one
next_inside : (slots slot : ℕ) → least_slots ≤ slots → next_slot slots slot < slots
next_inside slots slot least = grind (arith, nat_tests)

next_differs : (slots slot : ℕ) → least_slots ≤ slots → slot < slots → slot ≢ next_slot slots slot
next_differs slots slot least h = λ e. absurd (grind (arith, nat_tests))

-- Bytes with the header and the length of a ring have its form, and so they have with another current slot.
module _ (bytes full : List ℕ) (f : Form bytes) (long : length full ≡ length bytes) (head : (i : ℕ) → i < header_size → get_or full i 0 ≡ get_or bytes i 0) where
  form_full : Form full
  form_full = record {
    least = omega (arith, f.least, head 0 (omega arith));
    most = omega (arith, f.most, head 0 (omega arith));
    width = head 1 (omega arith) ∙ f.width;
    current = omega (arith, f.current, head 0 (omega arith), head 2 (omega arith));
    long = omega (arith, f.long, long, head 0 (omega arith));
  }

  module _ (slot : ℕ) (inside : slot < slots_of bytes) where
    current_turned : current_of (set full 2 slot) ≡ slot
    current_turned = get_or-set_same full 2 slot 0 (omega (arith, long, f.long, f.least))

    slots_turned : slots_of (set full 2 slot) ≡ slots_of full
    slots_turned = get_or-set_other full 2 0 slot 0 (omega arith)

    form_turned : Form (set full 2 slot)
    form_turned = record {
      least = omega (arith, form_full.least, slots_turned);
      most = omega (arith, form_full.most, slots_turned);
      width = get_or-set_other full 2 1 slot 0 (omega arith) ∙ form_full.width;
      current = omega (arith, current_turned, slots_turned, head 0 (omega arith));
      long = length-set full 2 slot ∙ omega (arith, form_full.long, slots_turned);
    }

    record_turned : (other : ℕ) → record_in other (set full 2 slot) ≡ record_in other full
    record_turned other = record_from (set full 2 slot) (slots_of full) other _ _ slots_turned
        (ap (take term_size) (drop-set-lt (term_place other) full 2 slot (omega arith)))
        (ap (take state_size) (drop-set-lt (state_place (slots_of full) other) full 2 slot (omega arith)))

    -- the ring holds the slot's record where the number lands, and else the current one
    turned_holds : (lands_here : Bool) (new old : Record ℕ) → (lands_here ≡ true → record_in slot full ≡ new) → record_in (current_of bytes) full ≡ old
        → ring (cond lands_here (set full 2 slot) full) ≡ record { content = cond lands_here new old; size = ring_size; sound = true; may_keep = by_last_write ring_size }
    turned_holds true new old is_new is_old = ring_holds (set full 2 slot) new (formed (set full 2 slot) form_turned)
        (ap (λ (n : ℕ). record_in n (set full 2 slot)) current_turned ∙ record_turned slot ∙ is_new refl)
    turned_holds false new old is_new is_old = ring_holds full old (formed full form_full) (ap (λ (n : ℕ). record_in n full) (head 2 (omega arith)) ∙ is_old)

-- The bytes after a write to bytes that have the form.
pub sound_after : (bytes : List ℕ) (change : Change ℕ) (power : Power) → well_formed bytes ≡ true → ReadsBack (changed change (ring bytes).content)
    → ring (after_change change power bytes) ≡ after_write (ring bytes) change power (last_lands ring_size power)
sound_after bytes change power h back =
    let f = form bytes h in
    let slot : ℕ = next_slot (slots_of bytes) (current_of bytes) in
    let inside : slot < slots_of bytes = next_inside (slots_of bytes) (current_of bytes) f.least in
    let old : Record ℕ = (ring bytes).content in
    let new : Record ℕ = changed change old in
    let full : List ℕ = filled slot new power bytes in
    let number : Bool = number_lands (left_for_number power) in
    let is_old : record_in (current_of bytes) full ≡ old =
    others_filled bytes f slot inside new power (current_of bytes) f.current (next_differs (slots_of bytes) (current_of bytes) f.least f.current)
    ∙ sym (cond-true (well_formed bytes) (record_in (current_of bytes) bytes) zeros h) in
    let is_new : number ≡ true → record_in slot full ≡ new = λ t. slot_filled bytes f slot inside new power (lands_enough power t) back in
    ap ring (cond-true (well_formed bytes) (turned slot (left_for_number power) full) bytes h)
    ∙ turned_holds bytes full f (length-filled bytes f slot inside new power) (header_filled bytes f slot inside new power) slot inside number new old is_new is_old
    ∙ ap (λ (b : Bool). record { content = cond b new old; size = ring_size; sound = true; may_keep = by_last_write ring_size }) (lands power)
    ∙ sym (sound_holds (ring bytes) change power (last_lands ring_size power) h)

-- The theorem on every write to a ring.
pub never_torn : (bytes after : List ℕ) (change : Change ℕ) (power : Power) (finished : Bool) → after ≡ after_change change power bytes
    → finished ≡ finishes (ring bytes) power
    → (well_formed bytes ≡ true → ReadsBack (changed change (ring bytes).content))
    → Written (ring bytes) change power finished (ring after)
never_torn bytes after change power finished made answered back = record {
  answer = answered;
  keeps_new = last_lands ring_size power;
  allowed = grind (arith, nat_tests);
  same = ap ring made ∙ go (well_formed bytes) refl;
} where
  go : (b : Bool) → well_formed bytes ≡ b → ring (after_change change power bytes) ≡ after_write (ring bytes) change power (last_lands ring_size power)
  go true h = sound_after bytes change power h (back h)
  go false h = ap ring (cond-false (well_formed bytes) (turned (next_slot (slots_of bytes) (current_of bytes)) (left_for_number power) (filled (next_slot (slots_of bytes) (current_of bytes)) (changed change (ring bytes).content) power bytes)) bytes h)
      ∙ sym (unsound_stays (ring bytes) change power (last_lands ring_size power) h)
