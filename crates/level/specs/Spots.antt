-- Where the two places of each pair lie, by the length of the block: `vectors/tables.py` writes them.
use Rattle.std.specs.Prelude.{List, [], ◌∷◌, ℕ}

unfoldable pub near_2 : List ℕ
near_2 = 0 ∷ 1 ∷ []

unfoldable pub far_2 : List ℕ
far_2 = 0 ∷ 1 ∷ []

unfoldable pub near_4 : List ℕ
near_4 = 0 ∷ 1 ∷ 2 ∷ 3 ∷ []

unfoldable pub far_4 : List ℕ
far_4 = 0 ∷ 1 ∷ 2 ∷ 3 ∷ []

unfoldable pub near_6 : List ℕ
near_6 = 0 ∷ 130 ∷ []

unfoldable pub far_6 : List ℕ
far_6 = 131 ∷ 133 ∷ []

unfoldable pub near_12 : List ℕ
near_12 = 0 ∷ 137 ∷ 133 ∷ 3 ∷ []

unfoldable pub far_12 : List ℕ
far_12 = 136 ∷ 134 ∷ 2 ∷ 139 ∷ []

unfoldable pub near_18 : List ℕ
near_18 = 0 ∷ 9 ∷ 139 ∷ 130 ∷ 140 ∷ 14 ∷ []

unfoldable pub far_18 : List ℕ
far_18 = 8 ∷ 17 ∷ 15 ∷ 6 ∷ 131 ∷ 133 ∷ []

unfoldable pub near_36 : List ℕ
near_36 = 0 ∷ 33 ∷ 18 ∷ 3 ∷ 151 ∷ 137 ∷ 133 ∷ 148 ∷ 152 ∷ 14 ∷ 29 ∷ 155 ∷ []

unfoldable pub far_36 : List ℕ
far_36 = 136 ∷ 134 ∷ 154 ∷ 12 ∷ 32 ∷ 17 ∷ 149 ∷ 139 ∷ 15 ∷ 30 ∷ 2 ∷ 35 ∷ []

unfoldable pub near_54 : List ℕ
near_54 = 0 ∷ 9 ∷ 24 ∷ 33 ∷ 48 ∷ 178 ∷ 163 ∷ 154 ∷ 139 ∷ 130 ∷ 140 ∷ 149 ∷ 164 ∷ 173 ∷ 47 ∷ 38 ∷ 23 ∷ 14 ∷ []

unfoldable pub far_54 : List ℕ
far_54 = 155 ∷ 17 ∷ 179 ∷ 6 ∷ 32 ∷ 30 ∷ 8 ∷ 181 ∷ 15 ∷ 157 ∷ 39 ∷ 133 ∷ 172 ∷ 146 ∷ 148 ∷ 170 ∷ 131 ∷ 41 ∷ []

unfoldable pub near_108 : List ℕ
near_108 = 0 ∷ 33 ∷ 18 ∷ 3 ∷ 48 ∷ 81 ∷ 66 ∷ 51 ∷ 96 ∷ 214 ∷ 229 ∷ 99 ∷ 199 ∷ 166 ∷ 181 ∷ 196 ∷ 151 ∷ 137 ∷ 133 ∷ 148 ∷ 152 ∷ 185 ∷ 170 ∷ 155 ∷ 200 ∷ 233 ∷ 218 ∷ 203 ∷ 95 ∷ 62 ∷ 77 ∷ 92 ∷ 47 ∷ 14 ∷ 29 ∷ 44 ∷ []

unfoldable pub far_108 : List ℕ
far_108 = 80 ∷ 134 ∷ 45 ∷ 212 ∷ 32 ∷ 182 ∷ 93 ∷ 83 ∷ 15 ∷ 230 ∷ 202 ∷ 35 ∷ 63 ∷ 65 ∷ 154 ∷ 12 ∷ 232 ∷ 17 ∷ 149 ∷ 60 ∷ 184 ∷ 30 ∷ 197 ∷ 235 ∷ 136 ∷ 78 ∷ 98 ∷ 187 ∷ 167 ∷ 217 ∷ 50 ∷ 139 ∷ 215 ∷ 169 ∷ 2 ∷ 164 ∷ []
