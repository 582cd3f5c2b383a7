-- What the awake nodes of a line report, and when a line fits reports. Assumes nothing.
use Rattle.std.specs.Prelude.{ℕ, ◌+◌, List, [], ◌∷◌, ◌++◌, reverse, Some, None}
use Rattle.report.specs.Reports.{Report}
use Rattle.train.specs.Line.{Way, forward, turned, Node, masks, Coupled, Line}

-- an awake node as it stands in a line, with the data of its consist
pub record Awake : Type 0 where
  pub mac : ℕ
  pub uuid : ℕ
  pub position : ℕ
  pub masks : List ℕ
  pub way : Way

-- the awake ones of nodes from position p on
abbrev pub awake_from : ℕ → List Node → (ℕ → ℕ → Awake) → List Awake
awake_from p [] made = []
awake_from p (n ∷ ns) made = elim n.mac [ Some m ↦ made m p ∷ awake_from (p + 1) ns made | None ↦ awake_from (p + 1) ns made ]

-- of a consist, as they are met from the left
abbrev pub awake_of : Coupled → List Awake
awake_of s =
    let c = s.consist in
    let up = awake_from 1 c.nodes (λ m p. record { mac = m; uuid = c.uuid; position = p; masks = masks c; way = s.way }) in
    elim s.way [ forward ↦ up | turned ↦ reverse up ]

abbrev pub awake : Line → List Awake
awake [] = []
awake (s ∷ l) = awake_of s ++ awake l

-- which of two neighbours, to the left and to the right, is on side 1
abbrev pub facing : Way → ℕ → ℕ → ℕ
facing forward l r = l
facing turned l r = r

-- what an awake node reports with l to its left and r to its right, 0 for none
abbrev pub report : ℕ → Awake → ℕ → Report
report l a r = record {
  mac = a.mac;
  side1 = facing a.way l r;
  side2 = facing a.way r l;
  uuid = a.uuid;
  position = a.position;
  masks = a.masks;
}

abbrev pub first_mac : List Awake → ℕ
first_mac [] = 0
first_mac (a ∷ xs) = a.mac

-- the reports of awake nodes that follow each other, with l to the left of the first
abbrev pub reports : ℕ → List Awake → List Report
reports l [] = []
reports l (a ∷ xs) = report l a (first_mac xs) ∷ reports a.mac xs

abbrev pub true_reports : Line → List Report
true_reports l = reports 0 (awake l)

pub data In {A : Type 0} (x : A) : List A → Type 0 where
  here : {xs : List A} → In x (x ∷ xs)
  there : {y : A} {xs : List A} → In x xs → In x (y ∷ xs)

-- the reports held are exactly the true reports of the line
pub record Fits (l : Line) (held : List Report) : Type 0 where
  pub each_true : (r : Report) → In r held → In r (true_reports l)
  pub each_held : (r : Report) → In r (true_reports l) → In r held
