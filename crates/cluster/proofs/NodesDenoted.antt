-- The nodes that stores and volatile values denote.
use Rattle.std.proofs.Common.{◌≡◌, ℕ, zero, suc, ◌<◌, List, [], ◌∷◌, length, get_or, set, replicate, Some, refl, ap, ◌∙◌, arith}
use Rattle.std.specs.List.{slice_get}
use Rattle.std.proofs.lemmas.List.{set-get_or}
use Rattle.protocol.specs.declared.node_state.NodeState.{NodeState}
use Rattle.protocol.specs.declared.volatile.Volatile.{Volatile}
use Rattle.store.specs.Stores.{Meaning}
use Rattle.store.specs.Banks.{absent, store_at}
use Rattle.cluster.specs.States.{blank}
use Rattle.cluster.specs.Worlds.{nodes_of}

pub length_nodes : (stores : List Meaning) (volatile : List Volatile) → length (nodes_of stores volatile) ≡ length stores
length_nodes [] volatile = refl
length_nodes (s ∷ stores) [] = ap suc (length_nodes stores [])
length_nodes (s ∷ stores) (w ∷ volatile) = ap suc (length_nodes stores volatile)

pub nth_node : (stores : List Meaning) (volatile : List Volatile) (n : ℕ) → n < length stores
    → slice_get (nodes_of stores volatile) n
    ≡ Some (record { kept = (store_at stores n).content; volatile = get_or volatile n blank })
nth_node [] volatile n h = absurd (omega arith)
nth_node (s ∷ stores) [] zero h = refl
nth_node (s ∷ stores) [] (suc n) h = nth_node stores [] n (omega arith)
nth_node (s ∷ stores) (w ∷ volatile) zero h = refl
nth_node (s ∷ stores) (w ∷ volatile) (suc n) h = nth_node stores volatile n (omega arith)

-- another store and other volatile values at n are another node at n
pub set_node : (stores : List Meaning) (volatile : List Volatile) (n : ℕ) (s : Meaning) (w : Volatile) → n < length volatile
    → set (nodes_of stores volatile) n (record { kept = s.content; volatile = w })
    ≡ nodes_of (set stores n s) (set volatile n w)
set_node [] volatile n s w h = refl
set_node (x ∷ stores) [] n s w h = absurd (omega arith)
set_node (x ∷ stores) (y ∷ volatile) zero s w h = refl
set_node (x ∷ stores) (y ∷ volatile) (suc n) s w h =
    ap (λ (l : List (NodeState ℕ)). record { kept = x.content; volatile = y } ∷ l) (set_node stores volatile n s w (omega arith))

pub set_volatile : (stores : List Meaning) (volatile : List Volatile) (n : ℕ) (w : Volatile) → n < length volatile
    → set (nodes_of stores volatile) n (record { kept = (store_at stores n).content; volatile = w })
    ≡ nodes_of stores (set volatile n w)
set_volatile stores volatile n w h =
    set_node stores volatile n (store_at stores n) w h
    ∙ ap (λ (l : List Meaning). nodes_of l (set volatile n w)) (set-get_or stores n absent)

-- blank values may be left out
pub all_blank : (k : ℕ) (stores : List Meaning) → nodes_of stores (replicate k blank) ≡ nodes_of stores []
all_blank k [] = refl
all_blank zero (s ∷ stores) = refl
all_blank (suc k) (s ∷ stores) = ap (λ (l : List (NodeState ℕ)). record { kept = s.content; volatile = blank } ∷ l) (all_blank k stores)
