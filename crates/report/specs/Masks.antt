-- The networks that the nodes of a consist serve. Assumes nothing.
use Rattle.std.specs.Prelude.{ℕ, ◌+◌, ◌-◌, ◌/◌, ◌%◌, ◌^◌, Bool, true, not, ◌&&◌, ◌||◌, List, [], ◌∷◌, ◌==◌, length, filter, bit_or, nat_le}

-- a node with this mask serves network i: bit i - 1
abbrev pub serves : ℕ → ℕ → Bool
serves mask i = mask / 2 ^ (i - 1) % 2 == 1

-- a mask of 8 bits, not 0
abbrev pub is_mask : ℕ → Bool
is_mask m = nat_le 1 m && nat_le m 255

abbrev pub all_masks : List ℕ → Bool
all_masks [] = true
all_masks (m ∷ ms) = is_mask m && all_masks ms

-- the networks that the masks serve together
abbrev pub together : List ℕ → ℕ
together [] = 0
together (m ∷ ms) = bit_or m (together ms)

-- whether each network of the list is served wherever the next one is
abbrev pub unbroken_at : ℕ → List ℕ → Bool
unbroken_at mask [] = true
unbroken_at mask (i ∷ is) = (serves mask i || not (serves mask (i + 1))) && unbroken_at mask is

-- no network is served without all those below it
unfoldable pub unbroken : ℕ → Bool
unbroken mask = unbroken_at mask (1 ∷ 2 ∷ 3 ∷ 4 ∷ 5 ∷ 6 ∷ 7 ∷ [])

-- the masks cover the networks from 1 to the highest
abbrev pub gapless : List ℕ → Bool
gapless ms = unbroken (together ms)

-- the networks of a mask, rising
abbrev pub networks : ℕ → List ℕ
networks mask = filter (serves mask) (1 ∷ 2 ∷ 3 ∷ 4 ∷ 5 ∷ 6 ∷ 7 ∷ 8 ∷ [])

-- the set bits of all masks
abbrev pub set_bits : List ℕ → ℕ
set_bits [] = 0
set_bits (m ∷ ms) = length (networks m) + set_bits ms
