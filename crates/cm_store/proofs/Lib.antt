mod PagesLaw
