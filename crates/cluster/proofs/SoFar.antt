-- Turns that are taken one after the other.
use Rattle.std.proofs.Common.{◌≡◌, ℕ, ◌+◌, ◌<◌, ◌≤◌, List, [], ◌∷◌, ◌++◌, length, get_or, take, set, sym, refl, ap, ◌∙◌, subst}
use Rattle.protocol.specs.Decisions.{Setup}
use Rattle.std.proofs.lemmas.List.{map_push, map-set, set-get_or, take_all, take_more_set}
use Rattle.cluster.specs.declared.call.Call.{Call}
use Rattle.cluster.specs.declared.turn.Turn.{Turn}
use Rattle.cluster.specs.States.{State}
use Rattle.cluster.specs.Calls.{Answer, Step}
use Rattle.cluster.specs.Runs.{Run, ended, and_then, last_of}
use Rattle.cluster.specs.Playing.{calls_in, answers_in, Played}

-- one call more at the end of a run
module _ (setup : Setup ℕ) where
  pub one_call_more : (before : State) (calls : List Call) (answers : List Answer) (states : List State) → Run setup before calls answers states
      → (call : Call) (answer : Answer) (after : State) → Step setup (last_of before states) call answer after
      → Run setup before (calls ++ call ∷ []) (answers ++ answer ∷ []) (states ++ after ∷ [])
  one_call_more before calls answers states ended call answer after step = and_then step ended
  one_call_more before calls answers states (and_then {after = next} {calls = cs} {answers = told} {states = ss} s run) call answer after step =
      and_then s (one_call_more next cs told ss run call answer after step)

last_more : (before : State) (states : List State) (after : State) → last_of before (states ++ after ∷ []) ≡ after
last_more before [] after = refl
last_more before (s ∷ states) after = last_more s states after

-- the first i turns are taken, and led from one state to another
pub record SoFar (setup : Setup ℕ) (before : State) (turns : List Turn) (i : ℕ) (state : State) : Type 0 where
  pub states : List State
  pub run : Run setup before (calls_in (take i turns)) (answers_in (take i turns)) states
  pub last : last_of before states ≡ state

-- no turn is taken yet
pub none_taken : (setup : Setup ℕ) (before : State) (turns : List Turn) → SoFar setup before turns 0 before
none_taken setup before turns = record { states = []; run = ended; last = refl }

-- a turn is taken, and its call stays
pub calls_stay : (turns : List Turn) (i : ℕ) (d turn : Turn) → turn.call ≡ (get_or turns i d).call → calls_in (set turns i turn) ≡ calls_in turns
calls_stay turns i d turn e =
    map-set (λ (t : Turn). t.call) turns i turn
    ∙ ap (set (calls_in turns) i) e
    ∙ sym (map-set (λ (t : Turn). t.call) turns i (get_or turns i d))
    ∙ ap calls_in (set-get_or turns i d)

pub one_turn_more : (setup : Setup ℕ) (before : State) (turns : List Turn) (i : ℕ) (state : State) → SoFar setup before turns i state
    → i < length turns → (call : Call) (turn : Turn) (after : State) → turn.call ≡ call → Step setup state call turn.answer after
    → SoFar setup before (set turns i turn) (i + 1) after
one_turn_more setup before turns i state so_far l call turn after same step =
    let front = take_more_set turns i turn l in
    record {
      states = so_far.states ++ after ∷ [];
      run = subst (λ (ts : List Turn). Run setup before (calls_in ts) (answers_in ts) (so_far.states ++ after ∷ [])) (sym front)
          (subst (λ (cs : List Call). Run setup before cs (answers_in (take i turns ++ turn ∷ [])) (so_far.states ++ after ∷ []))
          (ap (λ (c : Call). calls_in (take i turns) ++ c ∷ []) (sym same) ∙ sym (map_push (λ (t : Turn). t.call) (take i turns) turn))
          (subst (λ (told : List Answer). Run setup before (calls_in (take i turns) ++ call ∷ []) told (so_far.states ++ after ∷ []))
          (sym (map_push (λ (t : Turn). t.answer) (take i turns) turn))
          (one_call_more setup before (calls_in (take i turns)) (answers_in (take i turns)) so_far.states so_far.run call turn.answer after
          (subst (λ (s : State). Step setup s call turn.answer after) (sym so_far.last) step))));
      last = last_more before so_far.states after;
    }

-- all turns are taken
pub all_taken : (setup : Setup ℕ) (before : State) (turns turns' : List Turn) (i : ℕ) (state : State) → SoFar setup before turns' i state
    → length turns' ≤ i → calls_in turns' ≡ calls_in turns → Played setup before turns turns' state
all_taken setup before turns turns' i state so_far l same = record {
  calls = same;
  states = so_far.states;
  run = subst (λ (cs : List Call). Run setup before cs (answers_in turns') so_far.states) same
      (subst (λ (ts : List Turn). Run setup before (calls_in ts) (answers_in ts) so_far.states) (take_all i turns' l) so_far.run);
  last = so_far.last;
}

-- the same step under a setup that is the same
pub step_under : {setup setup' : Setup ℕ} {before after : State} {call : Call} {answer : Answer} → setup ≡ setup'
    → Step setup before call answer after → Step setup' before call answer after
step_under {setup} {setup'} {before} {after} {call} {answer} same step = subst (λ (s : Setup ℕ). Step s before call answer after) same step
