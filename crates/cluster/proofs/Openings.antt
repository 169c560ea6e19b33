-- An opening over fresh stores is an opening on messages.
use Rattle.std.proofs.Common.{◌≡◌, ℕ, ◌≤◌, true, ◌==◌, List, [], ◌∷◌, map, length, Ok, refl, ap, ◌∙◌, ap₂, arith}
use Rattle.std.proofs.lemmas.List.{length-map}
use Rattle.std.proofs.lemmas.Bool.{and_parts, eqb-true, ltb-false, not-false}
use Rattle.quorum.specs.declared.node_set.NodeSet.{NodeSet}
use Rattle.quorum.specs.Sets.{legal_configuration}
use Rattle.protocol.specs.declared.node_state.NodeState.{NodeState}
use Rattle.protocol.specs.declared.record.Record.{Record}
use Rattle.protocol.specs.Decisions.{Setup, is_empty}
use Rattle.protocol.specs.Calls.{fresh_node}
use Rattle.protocol.specs.Runs.{Opened}
use Rattle.protocol.proofs.Deciding.{taken}
use Rattle.message_log.specs.Layout.{legal_capacity}
use Rattle.message_log.specs.Log.{read_as, cleared}
use Rattle.message_log.proofs.Adding.{empty_log}
use Rattle.store.specs.Stores.{Meaning}
use Rattle.cluster.specs.States.{blank, most_nodes, fresh, all_fresh, opening_tests, opening, opened}
use Rattle.cluster.specs.Worlds.{nodes_of, world_of}
use Rattle.cluster.proofs.NodesDenoted.{all_blank}

module _ (setup : Setup ℕ) where
  empty_set : (s : NodeSet) → is_empty s ≡ true → s ≡ record { bits = 0 }
  empty_set s h = ap (λ (n : ℕ). record { bits = n }) (eqb-true s.bits 0 h)

  fresh_record : (kept : Record ℕ) → fresh setup kept ≡ true → kept ≡ (fresh_node setup kept.last_accepted_version).kept
  fresh_record kept h =
      let a = and_parts (kept.current_term == 0) _ h in
      let b = and_parts (kept.last_accepted_term == 0) _ a.1 in
      let c = and_parts (is_empty kept.last_accepted_configuration) _ b.1 in
      let d = and_parts (is_empty kept.last_committed_configuration) _ c.1 in
      let e1 = eqb-true kept.current_term 0 a.0 in
      let e2 = eqb-true kept.last_accepted_term 0 b.0 in
      let e3 = empty_set kept.last_accepted_configuration c.0 in
      let e4 = empty_set kept.last_committed_configuration d.0 in
      let e5 = eqb-true kept.last_accepted_value setup.initial_value d.1 in
      λ i. record {
        current_term = e1 i;
        last_accepted_term = e2 i;
        last_accepted_version = kept.last_accepted_version;
        last_accepted_value = e5 i;
        last_accepted_configuration = e3 i;
        last_committed_configuration = e4 i;
      }

  abbrev versions : List Meaning → List ℕ
  versions stores = map (λ (s : Meaning). s.content.last_accepted_version) stores

  fresh_nodes : (stores : List Meaning) → all_fresh setup stores ≡ true → nodes_of stores [] ≡ map (fresh_node setup) (versions stores)
  fresh_nodes [] h = refl
  fresh_nodes (s ∷ stores) h =
      let p = and_parts (fresh setup s.content) (all_fresh setup stores) h in
      ap₂ (λ (r : Record ℕ) (l : List (NodeState ℕ)). record { kept = r; volatile = blank } ∷ l) (fresh_record s.content p.0) (fresh_nodes stores p.1)

  -- what an opening that is not refused says
  pub record Open (stores : List Meaning) : Type 0 where
    pub few : length stores ≤ most_nodes
    pub legal : legal_configuration (length stores) setup.initial_configuration ≡ true
    pub fresh : all_fresh setup stores ≡ true

  pub open_if_not_refused : (stores : List Meaning) → opening setup stores ≡ Ok tt → Open stores
  open_if_not_refused stores h =
      let p = (taken (opening_tests setup stores) tt tt h).0 in
      record {
        few = ltb-false most_nodes (length stores) p.1.0;
        legal = not-false (legal_configuration (length stores) setup.initial_configuration) p.1.1.0;
        fresh = not-false (all_fresh setup stores) p.1.1.1.0;
      }

  pub opened_on_messages : (stores : List Meaning) (capacity : ℕ) → legal_capacity capacity ≡ true → Open stores
      → Opened setup (world_of (opened setup stores (cleared capacity)))
  opened_on_messages stores capacity c o = record {
    versions = versions stores;
    nodes = all_blank most_nodes stores ∙ fresh_nodes stores o.fresh;
    few = omega (arith, length-map stores (λ (s : Meaning). s.content.last_accepted_version), o.few);
    legal = ap (λ (k : ℕ). legal_configuration k setup.initial_configuration) (length-map stores (λ (s : Meaning). s.content.last_accepted_version)) ∙ o.legal;
    cleared = ap (map (read_as (length stores))) (empty_log capacity c).none;
  }
