-- Size, alignment and nest of a term, and where a struct's members stand (docs/wire.md, "Figures").
use Rattle.std.specs.Prelude.{◌≡◌, ℕ, suc, ◌+◌, ◌*◌, max, List, [], ◌∷◌, map, get_or}
use Rattle.std.specs.List.{AllByRecursion}
use Rattle.std.specs.Int.{byte_len, next_multiple_of}
use Rattle.fidl_wire.specs.Term.{Term, Fields, no_fields, field, Rows, width, IsNoName, IsBounded}
use Rattle.fidl_wire.specs.Term as ty

-- size and alignment in bytes, and how deep structs and arrays stand in one another inline
pub record Figure : Type 0 where
  pub size : ℕ
  pub align : ℕ
  pub nest : ℕ

-- the figure of a size, an alignment and a nest
abbrev pub figure : ℕ → ℕ → ℕ → Figure
figure size align nest = record { size = size; align = align; nest = nest }

-- a struct's figure, from the end of its members, their greatest alignment and their greatest nest:
-- an empty struct has one byte
abbrev pub struct_figure : ℕ → ℕ → ℕ → Figure
struct_figure end align nest = figure (next_multiple_of (max end 1) align) align (suc nest)

-- the figure of a term, over the figures of the declarations
abbrev mutual
  pub figure_of : List Figure → Term → Figure
  figure_of figures ty.bool = figure 1 1 0
  figure_of figures (ty.number kind) = figure (byte_len (width kind)) (byte_len (width kind)) 0
  figure_of figures (ty.bits kind mask) = figure (byte_len (width kind)) (byte_len (width kind)) 0
  figure_of figures (ty.enum kind values) = figure (byte_len (width kind)) (byte_len (width kind)) 0
  figure_of figures (ty.handle optional subtype rights) = figure 4 4 0
  figure_of figures (ty.string optional bound) = figure 16 8 0
  figure_of figures (ty.vector optional bound t) = figure 16 8 0
  figure_of figures (ty.array t n) = let f = figure_of figures t in
      figure (f.size * n) f.align (suc f.nest)
  figure_of figures (ty.box t) = figure 8 8 0
  figure_of figures (ty.struct fs) =
      struct_figure (end_of figures 0 fs) (align_of figures fs) (nest_of figures fs)
  figure_of figures (ty.table rows) = figure 16 8 0
  figure_of figures (ty.union optional strict rows) = figure 16 8 0
  figure_of figures (ty.named i) = get_or figures i (figure 1 1 0)

  -- where members that begin behind `from` end, each at the next place of its alignment
  pub end_of : List Figure → (from : ℕ) → Fields → ℕ
  end_of figures from no_fields = from
  end_of figures from (field name t fs) = let f = figure_of figures t in
      end_of figures (next_multiple_of from f.align + f.size) fs

  -- the greatest alignment of members, 1 where there are none
  pub align_of : List Figure → Fields → ℕ
  align_of figures no_fields = 1
  align_of figures (field name t fs) = max (figure_of figures t).align (align_of figures fs)

  -- the greatest nest of members, 0 where there are none
  pub nest_of : List Figure → Fields → ℕ
  nest_of figures no_fields = 0
  nest_of figures (field name t fs) = max (figure_of figures t).nest (nest_of figures fs)

-- the offsets of a struct's members, from its start, of those that begin behind `from`
abbrev pub offsets : List Figure → (from : ℕ) → Fields → List ℕ
offsets figures from no_fields = []
offsets figures from (field name t fs) =
    let f = figure_of figures t in
    let at = next_multiple_of from f.align in
    at ∷ offsets figures (at + f.size) fs

-- declarations with their figures
pub record Declarations : Type 0 where
  pub terms : List Term
  pub figures : List Figure

-- no declarations
abbrev pub no_declarations : Declarations
no_declarations = record { terms = []; figures = [] }

-- the figures solve the equations of the declarations
abbrev pub IsLaidOut : Declarations → Type 0
IsLaidOut ds = map (figure_of ds.figures) ds.terms ≡ ds.figures

-- declarations that the laws speak of: laid out, and with bounds that a count can be
pub record IsSound (ds : Declarations) : Type 0 where
  pub laid_out : IsLaidOut ds
  pub bounded : AllByRecursion IsBounded ds.terms

-- the size of a term
abbrev pub size_of : Declarations → Term → ℕ
size_of ds t = (figure_of ds.figures t).size
