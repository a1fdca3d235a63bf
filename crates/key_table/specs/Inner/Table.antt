-- For the contracts of the functions that find keys: how a table of words holds keys. It need not be believed: what a caller gets, `Finds`, says that
-- the number found is the key's `place` and that the keys held are `joined`.
use Rattle.std.specs.Prelude.{ℕ, zero, suc, ◌+◌, ◌-◌, ◌*◌, ◌/◌, ◌%◌, ◌≤◌, ◌<◌, ◌≡◌, List, [], ◌∷◌, eqb, length, get_or}
use Rattle.lists.specs.Firsts.{place, joined}

-- a key as one number: different ones for different keys whose halves are below 2 ^ 30, since the factors are coprime and above 2 ^ 30. The proofs use nothing of it.
unfoldable pub mix_of : ℕ → ℕ
mix_of key = (key % 4294967296) * 1821285621 + (key / 4294967296) * 1481765933

-- the head where the search for a mixed key starts. The proofs use nothing of it but that it is below `heads`.
unfoldable pub head_of : ℕ → ℕ → ℕ
head_of heads mixed = (mixed / 4294967296 + mixed % 4294967296) % 4294967296 * 2654435769 / 65536 % 4294967296 * heads / 4294967296

-- the bits that say which links to follow, lowest first: all those of the mixed key, beginning with well mixed ones. The proofs use nothing of it.
unfoldable pub code_of : ℕ → ℕ
code_of mixed = mixed / 16777216 + mixed % 16777216 * 1099511627776

-- where node n stands: its key + 1, its link for a 0, its link for a 1
abbrev pub node_at : ℕ → ℕ → ℕ
node_at heads n = heads + 3 * n

-- the words of a node whose links lead nowhere
abbrev pub node_of : ℕ → List ℕ
node_of key = (key + 1) ∷ 0 ∷ 0 ∷ []

-- the node that the word at place a leads to: words are numbers of nodes + 1
abbrev pub node_from : ℕ → List ℕ → ℕ → ℕ
node_from heads t a = node_at heads (get_or t a 0 - 1)

-- the link of that node for the lowest bit of a code
abbrev pub link_from : ℕ → List ℕ → ℕ → ℕ → ℕ
link_from heads t a code = node_from heads t a + 1 + code % 2

-- the word at place a leads to a node with another key. Its words are not 0, so that they stay when keys are added.
pub record Passes (heads key : ℕ) (t : List ℕ) (a : ℕ) : Type 0 where
  pub some : 0 < get_or t a 0
  pub used : 0 < get_or t (node_from heads t a) 0
  pub other : get_or t (node_from heads t a) 0 ≡ key + 1 → ⊥

-- a search that is at place a with the code c, and so many nodes later at place z with the code d
abbrev pub Path : (heads key : ℕ) (t : List ℕ) (steps a c z d : ℕ) → Type 0
Path heads key t zero a c z d = (a ≡ z) × (c ≡ d)
Path heads key t (suc n) a c z d = Passes heads key t a × Path heads key t n (link_from heads t a c) (c / 2) z d

-- the search for a key comes to place z, with the code d
pub record Comes (heads key : ℕ) (t : List ℕ) (z d : ℕ) : Type 0 where
  pub steps : ℕ
  pub path : Path heads key t steps (head_of heads (mix_of key)) (code_of (mix_of key)) z d

-- the search for a key comes to a word that leads to node n
pub record Reached (heads key : ℕ) (t : List ℕ) (n : ℕ) : Type 0 where
  pub at : ℕ
  pub code : ℕ
  pub comes : Comes heads key t at code
  pub word : get_or t at 0 ≡ n + 1

-- the word at place a is 0, or leads onward to one of so many nodes
pub record Leads (heads count : ℕ) (t : List ℕ) (a : ℕ) : Type 0 where
  pub low : get_or t a 0 ≤ count
  pub onward : 0 < get_or t a 0 → a < node_from heads t a

-- the words t hold exactly these keys, in this order; behind their nodes may stand anything
pub record Held (heads : ℕ) (keys t : List ℕ) : Type 0 where
  pub fits : node_at heads (length keys) ≤ length t
  pub head : (a : ℕ) → a < heads → Leads heads (length keys) t a
  pub link : (n b : ℕ) → n < length keys → b < 2 → Leads heads (length keys) t (node_at heads n + 1 + b)
  pub key : (n : ℕ) → n < length keys → get_or t (node_at heads n) 0 ≡ get_or keys n 0 + 1
  pub found : (n : ℕ) → n < length keys → Reached heads (get_or keys n 0) t n

-- where a key may be searched for: some keys are held, there are heads, and a word can hold the key + 1
pub record Searchable (heads key : ℕ) (t : List ℕ) : Type 0 where
  pub keys : List ℕ
  pub held : Held heads keys t
  pub some : 0 < heads
  pub most : heads ≤ 4294967296
  pub word : key + 1 < 18446744073709551616

-- where the search for a key ends: at a 0, or at a word that leads to the key's node
pub record Walked (heads key : ℕ) (t : List ℕ) (at : ℕ) : Type 0 where
  pub code : ℕ
  pub comes : Comes heads key t at code
  pub stops : 0 < get_or t at 0 → get_or t (node_from heads t at) 0 ≡ key + 1

-- so many keys are held, and there is room for one node more
pub record Holding (heads count key : ℕ) (t : List ℕ) : Type 0 where
  pub base : Searchable heads key t
  pub counted : length base.keys ≡ count
  pub room : node_at heads (count + 1) ≤ length t

-- r is the key's number among those held in t, and t' holds them and the key
abbrev pub Finds : (heads count key : ℕ) (t t' : List ℕ) (r : ℕ) → Type 0
Finds heads count key t t' r = (keys : List ℕ) → Held heads keys t → length keys ≡ count → (r ≡ place eqb key keys) × Held heads (joined eqb key keys) t'
