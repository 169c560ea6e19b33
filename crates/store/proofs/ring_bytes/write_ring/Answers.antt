use Rattle.std.proofs.Common.{◌≡◌, ℕ, true, List, sym, refl, ap, ◌∙◌}
use Rattle.std.proofs.lemmas.Bool.{cond-true}
use Rattle.protocol.specs.declared.record.Record.{Record}
use Rattle.protocol.specs.declared.change.Change.{Change}
use Rattle.protocol.specs.Changes.{changed}
use Rattle.store.specs.Ring.{slots_of, current_of, well_formed, next_slot, left_for_number, ring, filled, turned, after_change}
use Rattle.store.specs.declared.power.Power.{Power}
use Rattle.store.proofs.ring_bytes.write_ring.Goals as goal

-- what was read of the opened bytes is what the bytes say
written : (bytes opened after : List ℕ) (change : Change ℕ) (power : Power) (old new : Record ℕ) (slot : ℕ)
    → opened ≡ bytes → well_formed opened ≡ true → old ≡ (ring opened).content → new ≡ changed change old → slot ≡ next_slot (slots_of opened) (current_of opened)
    → after ≡ turned slot (left_for_number power) (filled slot new power bytes) → after ≡ after_change change power bytes
written bytes opened after change power old new slot same form read applied next made =
    made ∙ rw (applied, read, next, same) refl ∙ sym (cond-true (well_formed bytes) _ _ (ap well_formed (sym same) ∙ form))

pub returns-clause-after : goal.returns-clause-after
returns-clause-after c =
    written _ _ _ c.args.change c.args.power _ _ _ c.in-Some.ensures.bytes c.in-Some.ring.form c.record.ensures c.apply-new.ensures c.next.ensures.number c.write.ensures.after
