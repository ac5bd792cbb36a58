-- Which key is which item: expressions are compared as trees without tokens' numbers, where a bare name stands for
-- the expression of the item with that output name.
use Rattle.std.specs.Prelude.{ℕ, Bool, List, Option, Some, None, find, length, nat_lt}
use Rattle.std.specs.Str.{bytes_eq}
use Rattle.std.specs.List.{position_or_len}
use Rattle.aql_syntax.specs.Trees.{Term, int, str, regex, column, bare, call, star, Terms, no_terms, more_terms, Item}
use Rattle.aql_syntax.specs.Sameness.{is_same}
use Rattle.clause_types.specs.Items.{output_name}

-- the first item with an output name
abbrev pub item_with_name : List ℕ → List Item → Option Item
item_with_name name items = find (λ item. bytes_eq (output_name item).text name) items

-- its expression; a bare name that is no output name stands for itself
abbrev pub expr_or : Term → Option Item → Term
expr_or term None = term
expr_or term (Some item) = item.expr

module _ (items : List Item) where
  abbrev mutual
    -- an expression in which each bare name is replaced by the expression that it stands for
    pub written_out : Term → Term
    written_out (int at n) = int at n
    written_out (str at text) = str at text
    written_out (regex at text) = regex at text
    written_out (column at alias name) = column at alias name
    written_out (bare at name) = expr_or (bare at name) (item_with_name name.text items)
    written_out (call at word args) = call at word (all_written_out args)
    written_out (star at word) = star at word

    pub all_written_out : Terms → Terms
    all_written_out no_terms = no_terms
    all_written_out (more_terms arg args) = more_terms (written_out arg) (all_written_out args)

  -- a key and an item are equal
  abbrev pub is_item : Term → Item → Bool
  is_item key item = is_same (written_out key) item.expr

  -- the number of the first key that is equal to the item, from 0; how many keys there are where none is
  abbrev pub key_number : List Term → Item → ℕ
  key_number keys item = position_or_len (λ key. is_item key item) keys

  abbrev pub is_key : List Term → Item → Bool
  is_key keys item = nat_lt (key_number keys item) (length keys)

  -- the number of the first item that is equal to the key, from 0; how many items there are where none is
  abbrev pub item_number : Term → ℕ
  item_number key = position_or_len (is_item key) items

  abbrev pub has_item : Term → Bool
  has_item key = nat_lt (item_number key) (length items)
