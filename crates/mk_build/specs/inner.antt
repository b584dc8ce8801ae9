pub mod PieceViews
