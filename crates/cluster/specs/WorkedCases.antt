-- Worked cases over bytes: a run of three nodes with plain stores, a publication as it lies in the log, a write that is cut
-- just before its end, and weights.
use Rattle.std.specs.Prelude.{◌≡◌, ℕ, ◌+◌, ◌*◌, true, List, [], ◌∷◌, ◌++◌, take, drop, Some, None, Ok, Err, slice_index_or}
use Rattle.quorum.specs.WorkedCases.{HeavyNodeDecides}
use Rattle.protocol.specs.declared.change.Change.{Change}
use Rattle.protocol.specs.declared.record.Record.{Record}
use Rattle.protocol.specs.declared.refusal.Refusal.TheVariants.{AlreadyAccepted, NoJoinQuorum, WriteUnfinished}
use Rattle.protocol.specs.Calls.{fresh_node}
use Rattle.protocol.specs.Changes.{changed}
use Rattle.protocol.specs.Decisions.{Setup}
use Rattle.protocol.specs.Refusals.{refusal_number}
-- majority, the initial value 100 and the initial configuration {0, 1, 2}; this set; and the set {2}
pub use Rattle.protocol.specs.WorkedCases.{the_setup, three, third}
use Rattle.message_log.specs.Log.{cleared}
use Rattle.store.specs.declared.power.Power.{Power}
use Rattle.store.specs.Banks.{store_at}
use Rattle.store.specs.Plain.{plain}
use Rattle.store.specs.Ring.{ring, well_formed}
use Rattle.store.specs.Slots.{term_bytes, state_bytes}
use Rattle.cluster.specs.declared.call.Call.{Call}
use Rattle.cluster.specs.declared.call.Call.TheVariants.{Bootstrap, StartJoin, Publish, Deliver}
use Rattle.cluster.specs.States.{State, opened}
use Rattle.cluster.specs.Calls.{Answer, Step, node_called, power_of, decision, change_in}
use Rattle.cluster.specs.Runs.{Run, last_of}

-- a fresh record with this accepted version
abbrev pub fresh_record : (version : ℕ) → Record ℕ
fresh_record version = (fresh_node the_setup version).kept

-- the setting: three plain stores with accepted versions 5, 5 and 6, and a log with room for 64 entries
abbrev pub the_opening : State
the_opening = opened the_setup (plain (fresh_record 5) ∷ plain (fresh_record 5) ∷ plain (fresh_record 6) ∷ []) (cleared 64)

-- power for one byte write, which is all that a write to a plain store takes
abbrev pub one : Power
one = record { budget = 1; residue = 0 }

-- the thirteen calls
abbrev pub the_calls : List Call
the_calls =
    Bootstrap 0 one
    ∷ Bootstrap 1 one
    ∷ StartJoin 0 0 1 one
    ∷ StartJoin 1 0 1 one
    ∷ Deliver 0 0 one
    ∷ Deliver 1 0 one
    ∷ Publish 0 1 6 118 three
    ∷ Deliver 2 0 one
    ∷ Deliver 2 1 one
    ∷ Deliver 3 0 one
    ∷ Deliver 4 0 one
    ∷ Deliver 4 0 one
    ∷ Deliver 2 1 one
    ∷ []

-- what they answer
abbrev pub the_answers : List Answer
the_answers =
    Ok None
    ∷ Ok None
    ∷ Ok (Some 0)
    ∷ Ok (Some 1)
    ∷ Ok None
    ∷ Ok None
    ∷ Ok (Some 2)
    ∷ Ok (Some 3)
    ∷ Ok (Some 4)
    ∷ Ok None
    ∷ Ok (Some 5)
    ∷ Ok (Some 5)
    ∷ Err AlreadyAccepted
    ∷ []

-- There is a run of these calls with these answers; and every run of them has these answers, and leaves these states.
pub record Answers (before : State) (calls : List Call) (answers : List Answer) : Type 0 where
  pub states : List State
  pub run : Run the_setup before calls answers states
  pub only : (others : List Answer) (left : List State) → Run the_setup before calls others left → (others ≡ answers) × (left ≡ states)

-- The publication in entry 2, from node 0 to everyone: term 1, version 6, base term 0, base version 5, value 118, and twice
-- the set {0, 1, 2}.
abbrev pub the_body : List ℕ
the_body =
    0x00 ∷ 0xff
    ∷ 0x00 ∷ 0x00 ∷ 0x00 ∷ 0x01
    ∷ 0x00 ∷ 0x00 ∷ 0x00 ∷ 0x06
    ∷ 0x00 ∷ 0x00 ∷ 0x00 ∷ 0x00
    ∷ 0x00 ∷ 0x00 ∷ 0x00 ∷ 0x05
    ∷ 0x00 ∷ 0x00 ∷ 0x00 ∷ 0x76
    ∷ 0x00 ∷ 0x07
    ∷ 0x00 ∷ 0x07 ∷ []

-- A call that writes to a ring: the store of the node that is called is a ring, and the call has this change to write. So
-- no test refuses it, and its message, if it sends one, has a place.
pub record WritesToRing (setup : Setup ℕ) (before : State) (call : Call) (bytes : List ℕ) (change : Change ℕ) : Type 0 where
  pub formed : well_formed bytes ≡ true
  pub held : store_at before.stores (node_called call) ≡ ring bytes
  pub due : change_in before.log (decision setup before call) ≡ Some change

-- power for 20 of the 21 byte writes of a ring: all but the slot number lands
abbrev pub all_but_one : (residue : ℕ) → Power
all_but_one residue = record { budget = 20; residue = residue }

-- a call was cut: its answer, the record in the store of the node that was called, and the log, which is as it was
pub record WasCut (before : State) (call : Call) (answer : Answer) (after : State) (kept : Record ℕ) : Type 0 where
  pub answered : answer ≡ Err WriteUnfinished
  pub holds : (store_at after.stores (node_called call)).content ≡ kept
  pub log : after.log ≡ before.log

-- three nodes, the first with a ring of two slots, slot 0 the current one: the header, two terms, two states
abbrev pub with_ring : State
with_ring =
    let r = fresh_record 5 in
    let bytes = 2 ∷ 16 ∷ 0 ∷ (term_bytes r ++ (term_bytes r ++ (state_bytes r ++ state_bytes r))) in
    opened the_setup (ring bytes ∷ plain (fresh_record 5) ∷ plain (fresh_record 6) ∷ []) (cleared 64)

pub record WorkedCases : Type 0 where
  -- two nodes are bootstrapped and join node 0, which publishes; both accept, and the second response decides; heard again,
  -- it finds the same commit; a publication that was accepted is refused
  pub thirteen : Answers the_opening the_calls the_answers
  -- entry 2 of the log is then a publication, byte for byte: its kind is byte 4 + 2, and its body the 26 bytes from
  -- 4 + 64 + 26 * 2 on
  pub kind : slice_index_or (last_of the_opening thirteen.states).log (4 + 2) 0 ≡ 2
  pub body : take 26 (drop (4 + 64 + 26 * 2) (last_of the_opening thirteen.states).log) ≡ the_body
  -- node 2 has not joined, so the configuration cannot then become {2}
  pub fourteenth : Answers (last_of the_opening thirteen.states) (Publish 0 1 7 119 third ∷ []) (Err NoJoinQuorum ∷ [])
  -- Any call that writes to any ring, with the power cut at the slot number: every step is unfinished. With residue 2 the
  -- old record is there afterwards, with residue 3 the new one.
  pub even : (setup : Setup ℕ) (before after : State) (call : Call) (answer : Answer) (bytes : List ℕ) (change : Change ℕ)
      → WritesToRing setup before call bytes change → power_of call ≡ all_but_one 2 → Step setup before call answer after
      → WasCut before call answer after (ring bytes).content
  pub odd : (setup : Setup ℕ) (before after : State) (call : Call) (answer : Answer) (bytes : List ℕ) (change : Change ℕ)
      → WritesToRing setup before call bytes change → power_of call ≡ all_but_one 3 → Step setup before call answer after
      → WasCut before call answer after (changed change (ring bytes).content)
  -- there are such steps: the bootstrap of a node with a ring
  pub even_bootstrap : Answers with_ring (Bootstrap 0 (all_but_one 2) ∷ []) (Err WriteUnfinished ∷ [])
  pub odd_bootstrap : Answers with_ring (Bootstrap 0 (all_but_one 3) ∷ []) (Err WriteUnfinished ∷ [])
  -- with weights 3, 1 and 1, {0} is a quorum of {0, 1, 2}, and {1, 2} is none
  pub weights : HeavyNodeDecides
  -- the numbers of the three refusals
  pub numbers : (refusal_number AlreadyAccepted ≡ 32) × (refusal_number NoJoinQuorum ≡ 31) × (refusal_number WriteUnfinished ≡ 38)
