-- The worked runs, computed.
use Rattle.std.proofs.Common.{◌≡◌, ℕ, ◌+◌, ◌*◌, Bool, true, false, cond, ◌&&◌, ◌||◌, List, [], ◌∷◌, get_or, take, drop, set, Some, None, Ok, Err, Option, Result, sym, refl, ap, ◌∙◌, subst}
use Rattle.std.proofs.lemmas.Bool.{false≢true}
use Rattle.quorum.specs.Sets.{member}
use Rattle.quorum.specs.Rules.{weight_below}
use Rattle.quorum.specs.WorkedCases.{HeavyNodeDecides}
use Rattle.protocol.specs.declared.change.Change.{Change}
use Rattle.protocol.specs.declared.effect.Effect.{Effect}
use Rattle.protocol.specs.declared.refusal.Refusal.{Refusal}
use Rattle.protocol.specs.declared.refusal.Refusal.TheVariants.{NoJoinQuorum, WriteUnfinished}
use Rattle.protocol.specs.Changes.{changed}
use Rattle.protocol.specs.Positions.{position}
use Rattle.message_log.specs.declared.fault.Fault.{Fault}
use Rattle.message_log.specs.Log.{appended}
use Rattle.message_log.specs.Rules.{read_body}
use Rattle.store.specs.declared.power.Power.{Power}
use Rattle.store.specs.Stores.{Meaning, after_write}
use Rattle.store.specs.Banks.{store_at}
use Rattle.cluster.specs.declared.call.Call.{Call}
use Rattle.cluster.specs.declared.call.Call.TheVariants.{Bootstrap, Publish}
use Rattle.cluster.specs.States.{State}
use Rattle.cluster.specs.Calls.{Answer, Outcome, Allowed, AllFit, node_called, power_of, decision, change_in, change_if, message_in, place_for, finished, stores_after, taken, cut, if_placed, carried_out, called}
use Rattle.cluster.specs.Runs.{Run, ended, and_then, last_of}
use Rattle.cluster.specs.WorkedCases.{the_setup, third, the_opening, the_calls, the_answers, the_body, Answers, with_ring, all_but_one, WorkedCases}
use Rattle.cluster.proofs.RingCuts.{even, odd}

-- Calls of which each can only keep the one record, `keeps`, or has no choice that matters.
module _ (keeps : Bool) where
  abbrev may : State → Call → Bool → Type 0
  may before call b = Allowed (store_at before.stores (node_called call)) (change_in before.log (decision the_setup before call)) (power_of call) b

  abbrev pub answers_of : State → List Call → List Answer
  answers_of before [] = []
  answers_of before (call ∷ calls) = let o = called the_setup before call keeps in o.answer ∷ answers_of o.state calls

  abbrev pub states_of : State → List Call → List State
  states_of before [] = []
  states_of before (call ∷ calls) = let o = called the_setup before call keeps in o.state ∷ states_of o.state calls

  -- what is asked for them to be a run, and the only one
  pub record Pinned (before : State) (call : Call) : Type 0 where
    pub allowed : may before call keeps
    pub fits : AllFit (message_in (decision the_setup before call))
    pub only : (b : Bool) → may before call b → called the_setup before call b ≡ called the_setup before call keeps

  abbrev pub AllPinned : State → List Call → Type 0
  AllPinned before [] = Unit {0}
  AllPinned before (call ∷ calls) = Pinned before call × AllPinned (called the_setup before call keeps).state calls

  run_of : (before : State) (calls : List Call) → AllPinned before calls → Run the_setup before calls (answers_of before calls) (states_of before calls)
  run_of before [] h = ended
  run_of before (call ∷ calls) h =
      and_then (record { keeps_new = keeps; allowed = h.0.allowed; fits = h.0.fits; same = refl })
      (run_of (called the_setup before call keeps).state calls h.1)

  only_run : {before : State} {calls : List Call} {answers : List Answer} {states : List State} → Run the_setup before calls answers states
      → AllPinned before calls → (answers ≡ answers_of before calls) × (states ≡ states_of before calls)
  only_run ended h = (refl, refl)
  only_run (and_then {before = before} {after = after} {call = call} {answer = answer} {calls = calls} {answers = answers} {states = states} s r) h =
      let same : called the_setup before call keeps ≡ record { answer = answer; state = after } =
      sym (h.0.only s.keeps_new s.allowed) ∙ s.same
      in
      let rest = only_run r (subst (λ (o : Outcome). AllPinned o.state calls) same h.1) in (
        (λ i. (sym same i).answer ∷ (rest.0 ∙ ap (λ (o : Outcome). answers_of o.state calls) (sym same)) i),
        (λ i. (sym same i).state ∷ (rest.1 ∙ ap (λ (o : Outcome). states_of o.state calls) (sym same)) i),
      )

  pub answer_so : (before : State) (calls : List Call) (answers : List Answer) → answers_of before calls ≡ answers → AllPinned before calls
      → Answers before calls answers
  answer_so before calls answers e h = record {
    states = states_of before calls;
    run = subst (λ (l : List Answer). Run the_setup before calls l (states_of before calls)) e (run_of before calls h);
    only = λ others left r. let same = only_run r h in (same.0 ∙ e, same.1);
  }

-- A write that finishes leaves the new record, so that what a cut one would keep makes no difference.
module _ (before : State) (n : ℕ) (power : Power) where
  abbrev store : Meaning
  store = store_at before.stores n

  stores_alike : (c : Option (Change ℕ)) → finished store c power ≡ true
      → stores_after before.stores n c power true ≡ stores_after before.stores n c power false
  stores_alike None e = refl
  stores_alike (Some change) e = ap (λ (m : Meaning). set before.stores n m) (with_new true ∙ sym (with_new false))
    where
      with_new : (b : Bool) → after_write store change power b
          ≡ record { content = changed change store.content; size = store.size; sound = store.sound; may_keep = store.may_keep }
      with_new b =
          ap (λ (f : Bool). record {
            content = cond (f || (store.sound && b)) (changed change store.content) store.content;
            size = store.size;
            sound = store.sound;
            may_keep = store.may_keep;
          }) e

  alike_if_placed : (effect : Effect ℕ) (p : Result (Option ℕ) Fault) → finished store (change_if p effect) power ≡ true
      → if_placed before n power true effect p ≡ if_placed before n power false effect p
  alike_if_placed effect (Err fault) e = refl
  alike_if_placed effect (Ok entry) e =
      ap (λ (stores : List Meaning). cond (finished store effect.change power) (taken before n stores effect entry) (cut before n stores))
      (stores_alike effect.change e)

  alike : (d : Result (Effect ℕ) Refusal) → finished store (change_in before.log d) power ≡ true
      → carried_out before n power true d ≡ carried_out before n power false d
  alike (Err why) e = refl
  alike (Ok effect) e = alike_if_placed effect (place_for before.log effect.message) e

-- what is to be computed of calls whose writes finish
abbrev Finishes : State → Call → Type 0
Finishes before call =
    may false before call false
    × AllFit (message_in (decision the_setup before call))
    × (finished (store_at before.stores (node_called call)) (change_in before.log (decision the_setup before call)) (power_of call) ≡ true)

abbrev AllFinish : State → List Call → Type 0
AllFinish before [] = Unit {0}
AllFinish before (call ∷ calls) = Finishes before call × AllFinish (called the_setup before call false).state calls

pinned : (before : State) (calls : List Call) → AllFinish before calls → AllPinned false before calls
pinned before [] h = tt
pinned before (call ∷ calls) h = (
  record {
    allowed = h.0.0;
    fits = h.0.1;
    only = elim [ true ↦ λ _. alike before (node_called call) (power_of call) (decision the_setup before call) h.0.2 | false ↦ λ _. refl ];
  },
  pinned (called the_setup before call false).state calls h.1,
)

-- a pair, written without its parentheses
infixr 30 ◌then◌
◌then◌ : {A B : Type 0} → A → B → A × B
a then b = (a, b)

-- of each call: the old record may be kept, its message fits, its write finishes; `tt` where it writes nothing or sends nothing
all_finish : AllFinish the_opening the_calls
unfolding member weight_below position appended read_body
all_finish =
    (refl, tt, refl) then (refl, tt, refl) then (refl, refl, refl) then (refl, refl, refl) then (tt, tt, refl) then (tt, tt, refl)
    then (tt, refl, refl) then (refl, refl, refl) then (refl, refl, refl) then (tt, tt, refl) then (tt, refl, refl)
    then (tt, refl, refl) then (tt, tt, refl) then tt

answered : answers_of false the_opening the_calls ≡ the_answers
unfolding member weight_below position appended read_body
answered = refl

thirteen : Answers the_opening the_calls the_answers
thirteen = answer_so false the_opening the_calls the_answers answered (pinned the_opening the_calls all_finish)

-- after them: an entry of the log, and one more call
abbrev after : List Call → State
after calls = last_of the_opening (states_of false the_opening calls)

kind : get_or (after the_calls).log (4 + 2) 0 ≡ 2
unfolding member weight_below position appended read_body
kind = refl

body : take 26 (drop (4 + 64 + 26 * 2) (after the_calls).log) ≡ the_body
unfolding member weight_below position appended read_body
body = refl

abbrev next : List Call
next = Publish 0 1 7 119 third ∷ []

next_finishes : AllFinish (after the_calls) next
unfolding member weight_below position appended read_body
next_finishes = ((tt, tt, refl), tt)

next_answered : answers_of false (after the_calls) next ≡ Err NoJoinQuorum ∷ []
unfolding member weight_below position appended read_body
next_answered = refl

fourteenth : Answers (after the_calls) next (Err NoJoinQuorum ∷ [])
fourteenth = answer_so false (after the_calls) next (Err NoJoinQuorum ∷ []) next_answered (pinned (after the_calls) next next_finishes)

-- the bootstrap of a node with a ring, cut at the slot number
even_bootstrap : Answers with_ring (Bootstrap 0 (all_but_one 2) ∷ []) (Err WriteUnfinished ∷ [])
even_bootstrap =
    answer_so false with_ring (Bootstrap 0 (all_but_one 2) ∷ []) (Err WriteUnfinished ∷ []) refl
    (record { allowed = refl; fits = tt; only = elim [ true ↦ λ a. absurd (false≢true a) | false ↦ λ a. refl ] }, tt)

odd_bootstrap : Answers with_ring (Bootstrap 0 (all_but_one 3) ∷ []) (Err WriteUnfinished ∷ [])
odd_bootstrap =
    answer_so true with_ring (Bootstrap 0 (all_but_one 3) ∷ []) (Err WriteUnfinished ∷ []) refl
    (record { allowed = refl; fits = tt; only = elim [ true ↦ λ a. refl | false ↦ λ a. absurd (false≢true a) ] }, tt)

weights : HeavyNodeDecides
unfolding member weight_below
weights = record { heavy = refl; light = refl }

pub worked_cases : WorkedCases
unfolding thirteen answer_so
worked_cases = record {
  thirteen = thirteen;
  kind = kind;
  body = body;
  fourteenth = fourteenth;
  even = even;
  odd = odd;
  even_bootstrap = even_bootstrap;
  odd_bootstrap = odd_bootstrap;
  weights = weights;
  numbers = (refl, refl, refl);
}
