-- The second demand for what indices mean: "the gains, delays, averaged parameters and 512 ternary codes", over the
-- definitions that the contracts cite. That the tables are the printed ones is what EVIDENCE compares.
use Rattle.std.specs.Prelude.{◌≡◌, List, [], ◌∷◌, ◌⊎◌, ◌↔◌, ℕ, ◌+◌, ◌-◌, ◌*◌, ◌<◌, ◌≤◌, ℤ, pos, neg_ℤ, ◌+ℤ◌, ◌*ℤ◌, get_or, length, None, Some, Ok}
use Rattle.std.specs.Int.{w16}
use Rattle.std.proofs.Common.{SFits}
use Rattle.record.specs.Fields.{index_of}
use Rattle.record.specs.declared.Record.{Record}
use Rattle.gains.specs.Tables.{cg_table, pg_table}
use Rattle.gains.specs.Nearest.{nearest_of, Nearest}
use Rattle.delays.specs.Table.{twelfths_of, printed_byte, rank_of}
use Rattle.delays.specs.Codes.{after_of, meant_by, coded_of}
use Rattle.lsp.specs.Table.{column, lsp}
use Rattle.lsp.specs.Order.{mark_of, InOrder}
use Rattle.codebook.specs.Book.{book}
use Rattle.codebook.specs.Code.{code_of}
use Rattle.draws.specs.Draw.{position_of, wrapped, kept_at, draw_of}
use Rattle.draws.specs.declared.Generator.{Generator}
use Rattle.values.specs.Values.{cg_index, pg_index, pd_index, present_of, used_of, fresh_state, values_of}
use Rattle.values.specs.declared.State.{State}
use Rattle.values.specs.declared.Outcome.TheVariants.{Heard}
use Rattle.promises.specs.Refused.{AllFit}

-- Gains: "the nearest table entry; on a tie the lower index", for any whole number; and an entry's nearest is itself.
unfoldable pub NearestEntry : Type 0
NearestEntry = (x : ℤ) → Nearest cg_table x (nearest_of cg_table x) × Nearest pg_table x (nearest_of pg_table x)

unfoldable pub GainsComeBack : Type 0
GainsComeBack =
    (i : ℕ) → i ≤ 31
    → (nearest_of cg_table (get_or cg_table i (pos 0)) ≡ i) × (nearest_of pg_table (get_or pg_table i (pos 0)) ≡ i)

-- "entry i is the negative of entry 31-i"
unfoldable pub CgMirrored : Type 0
CgMirrored = (i : ℕ) → i ≤ 31 → get_or cg_table i (pos 0) ≡ neg_ℤ (get_or cg_table (31 - i) (pos 0))

-- Delays: they rise with their rank; "the 256 printed codes use each byte once"; codes that fit mean delays, and
-- those delays have these codes.
unfoldable pub DelaysRise : Type 0
DelaysRise = (low high : ℕ) → low < high → high < 256 → twelfths_of low < twelfths_of high

unfoldable pub EachByteOnce : Type 0
EachByteOnce =
    ((rank : ℕ) → rank < 256 → (printed_byte rank < 256) × (rank_of (printed_byte rank) ≡ rank))
    × ((byte : ℕ) → byte < 256 → (rank_of byte < 256) × (printed_byte (rank_of byte) ≡ byte))

unfoldable pub DelaysComeBack : Type 0
DelaysComeBack =
    (i j k l : ℕ) → i < 256 → j < 64 → k < 256 → l < 64
    → (w : ℕ) × (x : ℕ) × (y : ℕ) × (z : ℕ)
    × (meant_by (i ∷ j ∷ k ∷ l ∷ []) ≡ Ok (w ∷ x ∷ y ∷ z ∷ [])) × (coded_of (w ∷ x ∷ y ∷ z ∷ []) ≡ Ok (i ∷ j ∷ k ∷ l ∷ []))

-- "Both ends of the list have fixed windows" (3.5.5): after delays up to 29.25 samples the 64 codes mean 20 to 38.33,
-- after delays from 115 on 84 to 147.
unfoldable pub FixedWindows : Type 0
FixedWindows =
    (rank : ℕ) → rank < 256
    → (twelfths_of rank ≤ 351 → (twelfths_of (after_of rank 0) ≡ 240) × (twelfths_of (after_of rank 63) ≡ 460))
    × (12 * 115 ≤ twelfths_of rank → (twelfths_of (after_of rank 0) ≡ 12 * 84) × (twelfths_of (after_of rank 63) ≡ 12 * 147))

-- Of a record that is heard, in subframe n: the gains of its own indices, which have an entry.
pub record Subframe (r : Record) (before : State) (n : ℕ) : Type 0 where
  pub cg_within : cg_index r n < length cg_table
  pub cg : get_or (values_of r before).cg (n - 1) (pos 0) ≡ get_or cg_table (cg_index r n) (pos 0)
  pub pg_within : pg_index r n < length pg_table
  pub pg : get_or (values_of r before).pg (n - 1) (pos 0) ≡ get_or pg_table (pg_index r n) (pos 0)

unfoldable pub GainsHeard : Type 0
GainsHeard =
    (r : Record) (before : State) → (values_of r before).outcome ≡ Heard → (n : ℕ) → 1 ≤ n → n ≤ 4 → Subframe r before n

-- the delays that its four PD mean, whatever the state; none of the four is too large
unfoldable pub DelaysHeard : Type 0
DelaysHeard =
    (r : Record) (before : State) → (values_of r before).outcome ≡ Heard
    → let delays = (values_of r before).delays in
    (length delays ≡ 4)
    × (meant_by (pd_index r 1 ∷ pd_index r 2 ∷ pd_index r 3 ∷ pd_index r 4 ∷ [])
    ≡ Ok (get_or delays 0 0 ∷ get_or delays 1 0 ∷ get_or delays 2 0 ∷ get_or delays 3 0 ∷ []))

-- LSP j in Hz is the entry of its own column at the record's own index, whenever the record's indices fit their fields
-- (it may be refused for its SP); and it is this one that is used.
pub record Lsp (r : Record) (before : State) (j : ℕ) : Type 0 where
  pub within : index_of r j < length (column j)
  pub present : lsp (present_of r) j ≡ get_or (column j) (index_of r j) 0
  pub used : lsp (used_of r before) j ≡ lsp (present_of r) j

unfoldable pub LspsHeard : Type 0
LspsHeard = (r : Record) (before : State) → AllFit r → (j : ℕ) → 1 ≤ j → j ≤ 10 → Lsp r before j

-- the mark of a record that is heard is that of its LSPs
unfoldable pub MarkHeard : Type 0
MarkHeard =
    (r : Record) (before : State) → (values_of r before).outcome ≡ Heard → (values_of r before).mark ≡ mark_of (present_of r)

-- "in subframe n, (9-2n) times the previous frame's value plus (2n-1) times the present one's"; "a fresh state takes
-- the first frame's own values", and then each average is eight times the value: so in any state that heard none.
abbrev pub average : Record → State → ℕ → ℕ → ℕ
average r before n j = get_or (values_of r before).averages (10 * (n - 1) + (j - 1)) 0

unfoldable pub Averaged : Type 0
Averaged =
    (r : Record) (before : State) (hz : List ℕ) → (values_of r before).outcome ≡ Heard → before.hz ≡ Some hz
    → (n j : ℕ) → 1 ≤ n → n ≤ 4 → 1 ≤ j → j ≤ 10
    → average r before n j ≡ (9 - 2 * n) * lsp hz j + (2 * n - 1) * lsp (used_of r before) j

unfoldable pub FirstAveraged : Type 0
FirstAveraged =
    (r : Record) (before : State) → (values_of r before).outcome ≡ Heard → before.hz ≡ None
    → (n j : ℕ) → 1 ≤ n → n ≤ 4 → 1 ≤ j → j ≤ 10 → average r before n j ≡ 8 * lsp (used_of r before) j

-- our fresh state is one of them, and "says there was none" of the last SY (document 02, K4); the state after a frame
-- is not, and holds the LSPs that were used and the frame's SY
unfoldable pub FreshNotBegun : Type 0
FreshNotBegun = fresh_state.hz ≡ None

unfoldable pub FreshHasNoSync : Type 0
FreshHasNoSync = fresh_state.last ≡ None

pub record Kept (r : Record) (before : State) : Type 0 where
  pub hz : (values_of r before).state.hz ≡ Some (used_of r before)
  pub last : (values_of r before).state.last ≡ Some r.sy

unfoldable pub StateHolds : Type 0
StateHolds = (r : Record) (before : State) → (values_of r before).outcome ≡ Heard → Kept r before

-- "The order mark of a record is the lowest j for which LSP j+1 is below LSP j, or 0 if there is none.
-- Equal is in order."
unfoldable pub MarkIsLowest : Type 0
MarkIsLowest =
    (hz : List ℕ)
    → (mark_of hz ≡ 0 → InOrder hz)
    × ((j : ℕ) → mark_of hz ≡ j → 1 ≤ j
    → (j ≤ 9) × (lsp hz (j + 1) < lsp hz j) × ((m : ℕ) → 1 ≤ m → m < j → lsp hz m ≤ lsp hz (m + 1)))

-- Codes: there are 1,082 elements, and sixty in each code; "each element is -1, 0 or 1"; "element k+2 of code n is
-- element k of code n-1, for n from 1 to 511 and k to 57"
abbrev pub OneOfThree : ℤ → Type 0
OneOfThree z = (z ≡ neg_ℤ (pos 1)) ⊎ ((z ≡ pos 0) ⊎ (z ≡ pos 1))

unfoldable pub Ternary : Type 0
Ternary =
    (length book ≡ 1082)
    × ((i : ℕ) → i < 1082 → OneOfThree (get_or book i (pos 0)))
    × ((n : ℕ) → (length (code_of n) ≡ 60) × ((k : ℕ) → k < 60 → OneOfThree (get_or (code_of n) k (pos 0))))

unfoldable pub CodesOverlap : Type 0
CodesOverlap =
    (n : ℕ) → 1 ≤ n → n ≤ 511
    → (length (code_of n) ≡ 60) × (length (code_of (n - 1)) ≡ 60)
    × ((k : ℕ) → k ≤ 57 → get_or (code_of n) (k + 2) (pos 0) ≡ get_or (code_of (n - 1)) k (pos 0))

-- Draws: "sixteen-bit sums that wrap": of the numbers kept at the two positions, the only number of sixteen bits that
-- differs from their sum by a multiple of 65,536.
unfoldable pub DrawsWrap : Type 0
DrawsWrap =
    (a b x : ℤ) → SFits w16 a → SFits w16 b → SFits w16 x
    → ((m : ℤ) × (x ≡ (a +ℤ b) +ℤ m *ℤ pos 65536)) ↔ (x ≡ wrapped (a +ℤ b))

-- "the two positions kept with them count by their remainder on five, 0 being the fifth, so any state draws"
unfoldable pub DrawsAtPositions : Type 0
DrawsAtPositions =
    (g : Generator)
    → ((draw_of g).value ≡ wrapped (kept_at g (position_of g.first) +ℤ kept_at g (position_of g.second)))
    × ((p : ℕ) → (1 ≤ position_of p) × (position_of p ≤ 5))
