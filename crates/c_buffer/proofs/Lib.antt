pub mod SlotMoves
