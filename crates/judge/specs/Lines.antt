-- On which line of a text a place stands, and in which column, for src/place_in_text. Assumes nothing.
use Rattle.std.specs.Prelude.{◌≡◌, ℕ, suc, ◌-◌, ◌<◌, ◌≤◌, List, length, take, count_by, ◌==◌, slice_index}
use Rattle.judge.specs.declared.place_in_text.PlaceInText.{PlaceInText}

-- the byte that ends a line
abbrev pub feed : ℕ
feed = 10

-- how many lines are ended
abbrev pub feeds : List ℕ → ℕ
feeds text = count_by (λ b. b == feed) text

-- no line ends between two places
abbrev pub OneLine : List ℕ → ℕ → ℕ → Type 0
OneLine text i j = (k : ℕ) → i ≤ k → k < j → slice_index text k ≡ feed → ⊥

-- the line of a place begins there: after the last line feed before the place
pub record Begins (text : List ℕ) (place start : ℕ) : Type 0 where
  pub before : start ≤ place
  pub after_feed : 0 < start → slice_index text (start - 1) ≡ feed
  pub same_line : OneLine text start place

-- the line of a place ends there: at the first line feed from the place on, or with the text
pub record Ends (text : List ℕ) (place end : ℕ) : Type 0 where
  pub behind : place ≤ end
  pub inside : end ≤ length text
  pub at_feed : end < length text → slice_index text end ≡ feed
  pub same_line : OneLine text place end

-- where a place stands; lines and columns are counted from 1
pub record StandsAt (text : List ℕ) (place : ℕ) (at : PlaceInText) : Type 0 where
  pub line : at.line ≡ suc (feeds (take place text))
  pub column : at.column ≡ suc (place - at.start)
  pub start : Begins text place at.start
  pub end : Ends text place at.end
