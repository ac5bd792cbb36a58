-- Equality of expressions but for places.
use Rattle.std.specs.Prelude.{◌≡◌, Bool, true, false, ◌&&◌}
use Rattle.std.specs.Str.{bytes_eq}
use Rattle.std.specs.Ordering.{int_eq}
use Rattle.aql_syntax.specs.Trees.{Name, Term, int, str, regex, column, bare, call, star, Terms, no_terms, more_terms}

-- the name, the expression with all places alike
abbrev pub unplaced_name : Name → Name
unplaced_name name = record { text = name.text; at = 0 }

abbrev mutual
  pub unplaced : Term → Term
  unplaced (int at value) = int 0 value
  unplaced (str at text) = str 0 text
  unplaced (regex at text) = regex 0 text
  unplaced (column at alias name) = column 0 (unplaced_name alias) (unplaced_name name)
  unplaced (bare at name) = bare 0 (unplaced_name name)
  unplaced (call at word args) = call 0 word (all_unplaced args)
  unplaced (star at word) = star 0 word

  pub all_unplaced : Terms → Terms
  all_unplaced no_terms = no_terms
  all_unplaced (more_terms arg args) = more_terms (unplaced arg) (all_unplaced args)

-- equal but for places
abbrev pub AreSame : Term → Term → Type 0
AreSame a b = unplaced a ≡ unplaced b

-- the test that decides it, and that of two names
abbrev pub is_same_name : Name → Name → Bool
is_same_name a b = bytes_eq a.text b.text

abbrev mutual
  pub is_same : Term → Term → Bool
  is_same (int at value) (int place other) = int_eq value other
  is_same (str at text) (str place other) = bytes_eq text other
  is_same (regex at text) (regex place other) = bytes_eq text other
  is_same (column at alias name) (column place other_alias other) = is_same_name alias other_alias && is_same_name name other
  is_same (bare at name) (bare place other) = is_same_name name other
  is_same (call at word args) (call place other others) = bytes_eq word other && are_same args others
  is_same (star at word) (star place other) = bytes_eq word other
  is_same term other = false

  pub are_same : Terms → Terms → Bool
  are_same no_terms no_terms = true
  are_same (more_terms arg args) (more_terms other others) = is_same arg other && are_same args others
  are_same args others = false
