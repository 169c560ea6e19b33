-- No run of calls splits the history.
use Rattle.std.proofs.Common.{◌≡◌, ℕ, zero, suc, ◌⊎◌, List, [], ◌∷◌, map, get_or, sym, refl, ap, ◌∙◌, subst, inl, inr}
use Rattle.protocol.specs.declared.message.Message.{Message}
use Rattle.protocol.specs.Decisions.{NodeState, Setup}
use Rattle.protocol.specs.Calls.{World, entries_of, fresh_node, called}
use Rattle.protocol.specs.History.{OneHistory}
use Rattle.protocol.specs.Runs.{Lawful, Reached, at_opening, by_call, NoRunSplitsTheHistory}
use Rattle.protocol.proofs.Setting.{Setting}
use Rattle.protocol.proofs.Steps as step
use Rattle.protocol.proofs.CallsAreSteps.{setting, state_of, After, call_steps}

module _ {V : Type 0} (setup : Setup V) (lawful : Lawful setup) where
  abbrev pub the_setting : Setting
  the_setting = setting setup lawful.values lawful.shared lawful.grows lawful.void

  abbrev pub state : List (NodeState V) → List (Message V) → step.State V
  state = state_of setup lawful.values lawful.shared lawful.grows lawful.void

  -- the state that a world is in, reached by steps
  pub record Stepped (world : World V) : Type 0 where
    pub log : List (Message V)
    pub readable : world.entries ≡ entries_of log
    pub reached : step.Reached the_setting setup.initial_value (state world.nodes log)

  fresh_at : (versions : List ℕ) (n : ℕ) → get_or (map (fresh_node setup) versions) n (fresh_node setup 0) ≡ fresh_node setup (get_or versions n 0)
  fresh_at [] n = refl
  fresh_at (v ∷ versions) zero = refl
  fresh_at (v ∷ versions) (suc n) = fresh_at versions n

  fresh : (v : ℕ) → step.FreshNode {V = V} (fresh_node setup v)
  fresh v = record { no_term = refl; no_accepted_term = refl; no_configuration = refl; no_committed_configuration = refl; no_memory = refl }

  pub stepped : (world : World V) → Reached setup world → Stepped world
  stepped world (at_opening o) = record {
    log = [];
    readable = o.cleared;
    reached = step.start (record {
      nodes = λ n.
          subst (λ (x : NodeState V). step.FreshNode {V = V} x)
          (sym (ap (λ (l : List (NodeState V)). get_or l n (fresh_node setup 0)) o.nodes ∙ fresh_at o.versions n))
          (fresh (get_or o.versions n 0));
      no_messages = refl;
    });
  }
  stepped world (by_call {world = before} r call fate) = go (stepped before r)
    where
      go : Stepped before → Stepped (called setup before call fate).world
      go s = record { log = a.log'; readable = a.readable'; reached = on a.steps }
        where
          a : After setup lawful.values lawful.shared lawful.grows lawful.void before s.log (called setup before call fate).world
          a = call_steps setup lawful.values lawful.shared lawful.grows lawful.void before s.log s.readable call fate

          on : (state (called setup before call fate).world.nodes a.log' ≡ state before.nodes s.log)
              ⊎ step.Step the_setting setup.initial_value (state before.nodes s.log) (state (called setup before call fate).world.nodes a.log')
              → step.Reached the_setting setup.initial_value (state (called setup before call fate).world.nodes a.log')
          on (inl e) = subst (λ (x : step.State V). step.Reached the_setting setup.initial_value x) (sym e) s.reached
          on (inr t) = step.next s.reached t

pub unsplit : (V : Type 0)
    → ((S : Setting) (value : V) (s : step.State V) → step.Reached S value s → OneHistory s.log)
    → NoRunSplitsTheHistory V
unsplit V one_history setup lawful world r =
    let s = stepped setup lawful world r in
    record { log = s.log; readable = s.readable; history = one_history (the_setting setup lawful) setup.initial_value _ s.reached }
